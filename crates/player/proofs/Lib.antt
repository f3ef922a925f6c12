-- What the proofs use.
pub mod Tests
pub mod Stacks
pub mod Heaps
pub mod Rows
pub mod Makings
pub mod Ports
pub mod Forward
pub mod Lining
pub mod Calls
pub mod Acting
pub mod Looping
pub mod Parts
