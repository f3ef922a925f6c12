-- What functions promise one another; a reader who believes the proofs need not read them.
pub mod Table
pub mod Answers
pub mod Refusals
