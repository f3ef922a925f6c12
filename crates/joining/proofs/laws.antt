-- Laws that proofs cite.
pub mod Moving
pub mod Adding
pub mod Cutting
pub mod Depth
pub mod Placing
pub mod LibraryLaws
pub mod Lengths
pub mod Again
