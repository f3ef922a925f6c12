-- What functions promise one another; a reader who believes the proofs need not read them.
pub mod Holds
pub mod Matches
pub mod Spans
pub mod FilledTable
pub mod WalkPost
pub mod ReadPost
