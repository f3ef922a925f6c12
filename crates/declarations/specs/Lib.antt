-- What judging the declarations ensures, and the laws that the proofs cite.
pub mod promises
pub mod laws
