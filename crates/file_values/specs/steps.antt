pub mod Groups
pub mod Searches
pub mod Repeats
