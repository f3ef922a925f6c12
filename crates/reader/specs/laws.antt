-- Laws that proofs cite.
pub mod Matching
pub mod Framing
pub mod Stored
pub mod Counting
pub mod SpanLaws
pub mod Kept
pub mod ReadingLaws
pub mod Order
