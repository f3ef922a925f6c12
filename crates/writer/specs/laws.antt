-- Laws that proofs cite.
pub mod Emits
pub mod Lengths
pub mod Stored
pub mod Room
pub mod Entries
