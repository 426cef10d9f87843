pub mod Opens
pub mod Nodes
pub mod Starting
