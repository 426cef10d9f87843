pub mod TaxonomyLaws
pub mod Inverses
pub mod NameLaws
pub mod ForestLines
pub mod EntryLaws
pub mod EntryPlaces
pub mod EntryLimits
pub mod LeafLaws
pub mod IdLaws
pub mod ValidModels
pub mod Rows
pub mod FirstWords
mod Examples
pub mod ExprBoundsLaws
pub mod Forms
pub mod Models
mod TaxonomyExamples
mod ForestExamples
mod BoundsExamples
mod NestingExamples
mod ValidExamples
mod InverseExamples
mod NameExamples
mod FormedExamples
mod NarrowingExamples
mod OrderExamples
pub mod LineLaws
pub mod NarrowingLaws
pub mod FirstDomains
pub mod NoTypes
pub mod EntryNames
pub mod Ancestors
pub mod DistinctDeclarations
pub mod MappedEntries
pub mod ShortLists
pub mod TaxonomyTests
pub mod NamedDeclarations
pub mod NearestEntries
