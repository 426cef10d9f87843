pub mod Gaps
pub mod Intervals
pub mod Narrowing
pub mod Words
pub mod steps
