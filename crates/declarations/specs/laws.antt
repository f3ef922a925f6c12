-- Laws that proofs cite.
pub mod Counts
