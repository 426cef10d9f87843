pub mod Stores
pub mod steps
