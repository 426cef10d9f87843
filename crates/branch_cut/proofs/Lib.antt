pub mod BranchLaws
pub mod OwedLaws
pub mod CutOrder
pub mod CutLaws
pub mod CutParts
pub mod KindMasks
pub mod FixedLaws
pub mod PortParts
mod ChoiceExamples
