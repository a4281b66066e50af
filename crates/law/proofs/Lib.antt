pub mod Accepting
pub mod Answering
pub mod Overlaps
pub mod Rows
pub mod Runs
pub mod Tests
