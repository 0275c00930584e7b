pub mod Reading
pub mod Costing
