pub mod Faults
pub mod Inverses
pub mod Laws
pub mod Nearest
pub mod steps
