pub mod Quests
pub mod OpenBranches
pub mod Accounts
pub mod Weights
pub mod Searches
pub mod Advances
pub mod Solvers
pub mod steps
