mod Joints
mod Placing
mod Admitting
mod Adding
mod Listing
pub mod ByPort
mod Pricing
mod Retiring
mod Serves
mod Turning
mod ByDeadline
