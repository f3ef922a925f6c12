-- Laws that proofs cite.
pub mod Writing
