pub mod InversePass
pub mod KnownPass
pub mod PlainPasses
pub mod TypePasses
