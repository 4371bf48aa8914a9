-- The lemmas of the crate, each file after those that it rests on.
pub mod Unique
pub mod Alike
