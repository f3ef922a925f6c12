-- Laws that proofs cite.
pub mod Proper
pub mod Recogniser
pub mod Passing
pub mod Parts
pub mod Declarations
pub mod Completion
pub mod Complete
pub mod Whole
pub mod Agreement
