-- What functions promise one another; a reader who believes the proofs need not read them.
pub mod Reading
pub mod Turning
pub mod Running
pub mod Ending
