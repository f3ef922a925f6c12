-- The device behind the cable, document 02, (viii): its registers, and the tape of samples.
pub mod Device
pub mod Bits
pub mod Rows
pub mod promises
pub mod laws
