-- What functions promise one another; a reader who believes the proofs need not read them.
pub mod Marking
pub mod Earlier
pub mod Judgements
pub mod Climbs
pub mod Indexing
