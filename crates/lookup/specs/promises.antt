-- What functions promise one another; a reader who believes the proofs need not read them.
pub mod HeldClasses
pub mod Lookups
pub mod Fields
pub mod Answers
pub mod Shows
