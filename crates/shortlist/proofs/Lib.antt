pub mod Counting
mod Inserting
