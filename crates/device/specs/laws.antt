-- Laws that proofs cite.
pub mod Samples
pub mod ByteLaws
pub mod Lagging
