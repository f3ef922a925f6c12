-- Laws that the proofs of Run's functions cite.
pub mod RunLaws
