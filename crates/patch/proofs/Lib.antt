-- The lemmas of the crate.
mod Runs
