-- Laws that proofs cite.
pub mod DemandLaws
