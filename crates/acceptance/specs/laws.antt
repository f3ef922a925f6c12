-- Laws that proofs cite.
pub mod TokenLaws
pub mod RefusalLaws
pub mod ReadLaws
pub mod KindLaws
