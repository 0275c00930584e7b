pub mod Rules
pub mod Calls
pub mod Lives
pub mod Fits
