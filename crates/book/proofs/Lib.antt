pub mod Keeps
pub mod Kept
pub mod Left
pub mod OneLine
pub mod Places
pub mod Refusing
pub mod Backward
pub mod FromSheets
