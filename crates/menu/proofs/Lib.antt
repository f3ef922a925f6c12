-- Laws that the proofs of the functions of Menu cite, one for each return.
pub mod LeastLaws
pub mod OrderLaws
pub mod MenuLaws
pub mod laws
pub mod Ordered
