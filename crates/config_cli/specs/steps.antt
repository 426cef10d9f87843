pub mod Words
pub mod Fetched
pub mod Calls
pub mod Checks
pub mod Leaves
pub mod Clashes
