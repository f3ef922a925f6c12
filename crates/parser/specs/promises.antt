-- What functions promise one another; a reader who believes the proofs need not read them.
pub mod Answers
pub mod Layout
pub mod Post
pub mod Parts
pub mod DeclarationPost
