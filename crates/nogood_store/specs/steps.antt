pub mod Watchers
pub mod Watching
pub mod Shelves
pub mod Stored
