pub mod Apart
pub mod Lasts
mod Lightest
mod Bounding
mod Progress
mod Rowing
mod Advancing
mod Cheapest
mod Planning
mod Returning
pub mod Heads
pub mod Turns
pub mod Passing
pub mod Extending
pub mod Offering
pub mod Laying
pub mod Keeping
pub mod Looping
pub mod Reading
pub mod Summing
