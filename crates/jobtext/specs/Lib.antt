pub mod Lines
pub mod Headers
pub mod Calls
pub mod Places
pub mod Books
pub mod Made
pub mod Jobs
pub mod Views
