-- The lemmas of the crate, each file after those that it rests on.
pub mod Triples
pub mod Begin
pub mod Finish
