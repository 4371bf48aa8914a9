-- The definitions of the crate.
pub mod Setting
pub mod Heard
pub mod Lent
