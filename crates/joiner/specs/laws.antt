-- Laws that proofs cite.
pub mod NameLaws
pub mod Braces
pub mod TextLaws
