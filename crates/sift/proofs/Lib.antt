-- The lemmas of the crate: the loop over triples and scores first, then the messages kept.
mod Scoring
mod Sifted
