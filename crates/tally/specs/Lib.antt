pub mod Tally
pub mod Refusals
pub mod Steps
pub mod Boards
pub mod Books
pub mod Plans
pub mod Lent
pub mod Promises
