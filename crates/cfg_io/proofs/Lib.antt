pub mod CountLaws
pub mod FileLaws
pub mod KeptCounts
pub mod StreamLaws
