-- The lemmas of the crate, each file after those that it rests on.
pub mod Pairs
pub mod Shape
