pub mod Nogoods
pub mod steps
