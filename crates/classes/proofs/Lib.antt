pub mod Clash
pub mod FirstMatch
pub mod Orders
pub mod SpanOrder
pub mod Steps
pub mod Ranks
