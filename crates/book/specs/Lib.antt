pub mod Tasks
pub mod Rows
pub mod Turns
pub mod Views
