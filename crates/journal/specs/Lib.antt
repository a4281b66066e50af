pub mod Asked
pub mod Replays
pub mod Text
