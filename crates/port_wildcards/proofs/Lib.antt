pub mod Sets
pub mod Narrowed
pub mod Instances
pub mod Bounds
pub mod Made
