-- Laws that the proofs cite, one for each return.
pub mod PlaceLaws
pub mod ScopeLaws
pub mod SizeLaws
pub mod RowLaws
pub mod PieceLaws
pub mod ExpressionLaws
pub mod StatementLaws
pub mod ListLaws
pub mod MethodLaws
pub mod ClassLaws
pub mod ProgramLaws
pub mod PrepareLaws
