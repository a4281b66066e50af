pub mod Cutting
pub mod Digits
pub mod FirstWord
pub mod Naming
pub mod Progress
pub mod Refusals
pub mod Runs
