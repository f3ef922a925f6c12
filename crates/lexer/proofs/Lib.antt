-- What the proofs of several functions use.
pub mod Runs
pub mod Reserved
pub mod Comments
pub mod Table
pub mod ByteKinds
pub mod Items
pub mod Folds
pub mod Chains
pub mod Stores
pub mod Verdicts
pub mod Lexing
pub mod laws
