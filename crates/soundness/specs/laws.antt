-- Laws that proofs cite.
pub mod ResultLaws
pub mod Search
pub mod Continuations
pub mod Ending
pub mod Climbing
pub mod LargerLimits
pub mod StateTyping
pub mod HeapLaws
pub mod Soundness
pub mod Reachable
pub mod Space
pub mod PortLaws
