-- Laws that the proofs of the functions on bodies cite, one for each return.
pub mod ScopeLaws
pub mod PartLaws
pub mod OperatorLaws
pub mod ExpressionLaws
pub mod StatementLaws
