-- What functions promise one another; a reader who believes the proofs need not read them.
pub mod Rows
pub mod Scan
pub mod Chains
pub mod Verdicts
pub mod Words
