pub mod Forms
pub mod Parts
pub mod Ends
pub mod Faults
pub mod Laws
pub mod steps
