pub mod Files
pub mod Passes
pub mod Stated
pub mod steps
