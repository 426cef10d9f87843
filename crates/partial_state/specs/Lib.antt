pub mod Masks
pub mod OldValues
pub mod Views
pub mod steps
