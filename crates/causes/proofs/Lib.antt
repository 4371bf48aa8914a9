-- The lemmas of the crate.
pub mod Number
