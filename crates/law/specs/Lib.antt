pub mod Conditions
pub mod Histories
pub mod Law
