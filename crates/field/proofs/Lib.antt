-- The lemmas of the crate, each file after those that it rests on.
pub mod Modulus
pub mod Refuses
pub mod Unique
