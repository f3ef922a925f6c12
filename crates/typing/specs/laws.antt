-- Laws that proofs cite.
pub mod Tests
pub mod Choices
pub mod Operations
pub mod Chains
pub mod Members
pub mod Judging
pub mod Distinctness
pub mod Declared
pub mod Programs
pub mod Agreement
pub mod ClassTableLaws
