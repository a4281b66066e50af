pub mod Axles
