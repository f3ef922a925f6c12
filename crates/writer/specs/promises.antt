-- What functions promise one another; a reader who believes the proofs need not read them.
pub mod Words
pub mod Places
pub mod Sizing
pub mod Scoping
pub mod Jobs
pub mod Posts
pub mod Methods
pub mod Classes
pub mod Writing
pub mod Preparing
