pub mod AnswerText
pub mod PartCodes
pub mod AnswerParts
pub mod BadLine
pub mod ConflictText
pub mod steps
