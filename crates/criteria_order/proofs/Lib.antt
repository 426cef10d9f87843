pub mod Negated
pub mod Numbers
pub mod PreferredLaws
pub mod RankParts
