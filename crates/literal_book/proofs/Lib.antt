pub mod ToldLaws
pub mod Masks
