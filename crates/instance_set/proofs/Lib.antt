pub mod Bits
pub mod Members
pub mod Least
pub mod Ones
pub mod Walks
