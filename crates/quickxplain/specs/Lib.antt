pub mod Testers
pub mod Explains
pub mod steps
