-- Laws that the proofs of the functions of Check cite, one for each return.
pub mod BodyLaws
pub mod VerdictLaws
