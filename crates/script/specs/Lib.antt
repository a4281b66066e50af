pub mod Commands
pub mod Fields
pub mod Numbers
pub mod Padding
pub mod Pieces
pub mod Scripts
pub mod Sets
