-- Laws that proofs cite.
pub mod HeldLaws
pub mod ChainLaws
pub mod VariableLaws
pub mod ShowLaws
