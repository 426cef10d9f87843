pub mod Assuming
pub mod Shortened
pub mod Choosing
