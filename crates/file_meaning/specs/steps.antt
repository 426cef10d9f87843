pub mod Judged
pub mod Names
pub mod FirstDeclared
pub mod Built
