pub mod ApartTypes
pub mod ImpliedLaws
pub mod ShortenedLaws
mod ImpliedExamples
pub mod Entries
pub mod Soundness
