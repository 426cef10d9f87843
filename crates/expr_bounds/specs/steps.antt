pub mod Arguments
pub mod FormBounds
pub mod PlusArgument
pub mod Sample
pub mod Search
