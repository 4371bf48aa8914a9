-- The lemmas of the crate.
mod Cut
