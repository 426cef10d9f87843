pub mod Implied
pub mod Learning
pub mod steps
