pub mod Ranges
pub mod Questions
pub mod Listed
