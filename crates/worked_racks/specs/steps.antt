pub mod Beyond
