pub mod Quotes
pub mod Text
