-- Laws that proofs cite.
pub mod Lookups
