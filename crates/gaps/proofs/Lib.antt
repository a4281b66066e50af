pub mod Meaning
pub mod Narrowing
pub mod Remaining
