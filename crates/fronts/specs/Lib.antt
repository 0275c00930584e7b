pub mod Rows
pub mod Views
pub mod Merging
pub mod Merge
pub mod ByLevel
pub mod Steps
pub mod Back
