-- Laws that the proofs of the reader's functions cite.
pub mod Depths
pub mod Lists
pub mod Nodes
pub mod Walks
pub mod Declarations
pub mod Growing
