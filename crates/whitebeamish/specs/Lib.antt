-- The definitions of the crate, each file after those that it rests on.
pub mod Numbers
pub mod Told
pub mod Alike
