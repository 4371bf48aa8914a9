-- The definitions of the crate, each file after those that it rests on.
pub mod Shape
pub mod Weights
pub mod Value
pub mod Triples
