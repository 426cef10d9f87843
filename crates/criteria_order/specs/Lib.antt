pub mod CriteriaValues
pub mod Wanted
pub mod Laws
pub mod steps
