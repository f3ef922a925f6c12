-- Laws that the proofs of judging the declarations cite, one for each return.
pub mod MarkLaws
pub mod EarlierLaws
pub mod VariableLaws
pub mod HeadLaws
pub mod ClassLaws
pub mod HeightLaws
pub mod Placing
pub mod IndexLaws
