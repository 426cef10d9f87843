pub mod Branching
pub mod Laws
pub mod Cuts
pub mod steps
