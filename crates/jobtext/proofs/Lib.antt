pub mod Advancing
pub mod Cutting
pub mod Repeating
pub mod Making
pub mod Ending
