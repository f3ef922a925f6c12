-- Laws that proofs cite.
pub mod Literals
