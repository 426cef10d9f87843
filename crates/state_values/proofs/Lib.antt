pub mod ToldParts
pub mod SeenLaws
pub mod KleeneLaws
pub mod RangeLaws
pub mod TallyLaws
pub mod LinkSums
pub mod LiteralLaws
pub mod NumbersHold
pub mod LinkedTruths
pub mod HeldForms
pub mod SeenHolds
pub mod LowestLaws
pub mod KeyStartLaws
pub mod KeyStartLeft
mod KeyStartExamples
pub mod ReadsKleene
pub mod ReadsSights
pub mod ReadsTallies
pub mod ReadsEntailed
pub mod CoveredLaws
mod RackExamples
mod LowestExamples
mod ServerExamples
pub mod WholeDomainLaws
pub mod AddedLaws
pub mod EndsLaws
pub mod FormSeen
pub mod KindsTold
pub mod KleeneTests
pub mod LeafLaws
pub mod LinkableLaws
pub mod NumberLaws
pub mod OwnBounds
pub mod PartsThere
pub mod SetTruths
pub mod SimpleTruths
pub mod TallySeen
