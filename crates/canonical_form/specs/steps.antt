pub mod Bikes
pub mod FirstDeclared
pub mod FirstRows
pub mod Grammar
pub mod Pieces
pub mod Reading
pub mod Written
