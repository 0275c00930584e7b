pub mod Passing
mod Rising
mod Standby
pub mod Bounds
pub mod Offering
pub mod Leveling
pub mod Multiples
pub mod Hyperperiods
