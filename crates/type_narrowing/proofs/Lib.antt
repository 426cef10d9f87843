pub mod Narrowings
pub mod Failures
pub mod OfKind
pub mod RangeReasons
pub mod LaterLinks
pub mod PortReasons
