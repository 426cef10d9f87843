pub mod Finds
pub mod PortTests
pub mod Seen
pub mod Turns
pub mod Evaluable
pub mod InstanceSets
