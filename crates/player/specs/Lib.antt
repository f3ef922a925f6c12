-- The runner of frames.
pub mod Answering
pub mod promises
