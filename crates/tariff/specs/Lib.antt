pub mod Codes
pub mod Fees
pub mod Quotients
pub mod Ranges
pub mod Text
