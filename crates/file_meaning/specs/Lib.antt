pub mod Expressions
pub mod Named
pub mod ModelOf
pub mod Faults
pub mod Stands
pub mod Refused
pub mod Laws
pub mod steps
