pub mod Calls
pub mod Contents
pub mod Refusals
pub mod Text
