pub mod Choices
pub mod Fronts
pub mod Places
pub mod Plans
pub mod Boards
pub mod Promises
pub mod Table
