pub mod Goals
pub mod Unmet
pub mod steps
