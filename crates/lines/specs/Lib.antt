pub mod Lines
pub mod Sets
pub mod Tables
