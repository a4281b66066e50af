pub mod Acceptable
pub mod Fields
pub mod Reading
pub mod Records
pub mod Refusals
pub mod Writing
