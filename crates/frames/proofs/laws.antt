-- Laws that proofs cite.
pub mod Turns
pub mod Steps
pub mod Places
