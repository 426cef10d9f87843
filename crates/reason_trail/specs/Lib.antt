pub mod Jobs
pub mod Reasons
pub mod Trails
pub mod Assumptions
pub mod Propagators
pub mod Joined
pub mod Begun
pub mod steps
