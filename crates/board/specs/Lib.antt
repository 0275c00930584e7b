pub mod Faults
pub mod Processors
pub mod Periods
pub mod Tasks
pub mod Measures
pub mod Views
