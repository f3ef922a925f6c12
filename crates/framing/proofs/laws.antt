-- Laws that proofs cite.
pub mod Cuts
pub mod Holding
pub mod Taking
pub mod Simulating
pub mod Calling
pub mod Following
pub mod Texts
pub mod Tables
pub mod Fitness
pub mod Staging
pub mod Reaching
pub mod Operating
