-- Laws that the proofs cite.
pub mod ReportLaws
pub mod ExecuteLaws
