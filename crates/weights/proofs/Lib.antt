-- The lemmas of the crate, each file after those that it rests on.
pub mod Weights
pub mod Pairing
pub mod Tripled
pub mod Turns
