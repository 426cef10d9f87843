pub mod ConflictLaws
pub mod ShapedParts
pub mod LinksBack
pub mod KeyLaws
pub mod RankLaws
pub mod Places
pub mod LinkTriples
pub mod PartLinks
pub mod FirstMentions
pub mod NumberedSentences
pub mod ShapedSentences
pub mod TurnSteps
pub mod Mention
pub mod NumberedByTurn
pub mod ValueLaws
pub mod Products
mod ValueExamples
mod ShapedExamples
mod NumberedExamples
mod RankExamples
mod RulesExamples
mod ConflictExamples
mod PreferredConflictExamples
mod PreferredExamples
pub mod HeldLaws
pub mod SumLaws
pub mod ToldLaws
pub mod BoundsLaws
pub mod SpelledLaws
pub mod LinkPushed
pub mod IntSums
