-- Laws that proofs cite.
pub mod ItemLaws
pub mod RowLaws
pub mod LiteralLaws
pub mod WordLengths
