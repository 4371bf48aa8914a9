-- The definitions of the crate, each file after those that it rests on.
pub mod Poly
pub mod Points
pub mod Hom
pub mod Conditions
pub mod Space
pub mod Search
