pub mod Codes
pub mod Breaks
pub mod Faultless
pub mod Requested
pub mod steps
