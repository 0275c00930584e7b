pub mod Heat
pub mod HeatLemmas
