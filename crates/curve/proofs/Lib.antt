-- The lemmas of the crate.
pub mod Clear
pub mod Zipped
pub mod Check
