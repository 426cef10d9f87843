pub mod OfIds
pub mod Changed
pub mod CoversLaws
pub mod NarrowingLaws
pub mod UndoLaws
pub mod ValuesLaws
pub mod PortLaws
pub mod EntailsLaws
pub mod ChangeLaws
pub mod SizeLaws
pub mod EntailedAfter
pub mod StateLaws
pub mod WholeLaws
pub mod GenerationLaws
pub mod OpenPort
pub mod NewLaws
pub mod GenerationKept
pub mod SearchLaws
pub mod GenerationSize
pub mod FewLaws
pub mod ValidLaws
pub mod ValidStates
pub mod RootLaws
pub mod NewState
pub mod GenerationState
pub mod WholeCovered
pub mod UndoneGeneration
pub mod DescriptionLists
pub mod DescriptionLaws
pub mod DescribedParts
pub mod DescribedCovered
pub mod WideLaws
mod StateExamples
mod SharedExamples
mod DescriptionExamples
