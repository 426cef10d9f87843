pub mod Kept
mod Watches
mod Shelves
mod Stored
