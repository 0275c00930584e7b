pub mod Kinds
pub mod Sums
pub mod Models
pub mod Singles
pub mod Paired
pub mod Totals
