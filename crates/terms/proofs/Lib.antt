-- The lemmas of the crate.
pub mod First
pub mod Shaped
