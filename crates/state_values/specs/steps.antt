pub mod KeyStartLeft
pub mod Ends
pub mod Added
pub mod Forms
pub mod Parts
pub mod Truths
