-- The lemmas of the crate.
mod Told
