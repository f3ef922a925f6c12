-- Laws that proofs cite.
pub mod Lists
pub mod WordLaws
pub mod Tests
