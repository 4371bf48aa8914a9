-- The definitions of the crate.
pub mod Euclid
pub mod Reciprocal
