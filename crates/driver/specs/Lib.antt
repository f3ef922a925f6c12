-- Runs of joined code: stretches of instructions between calls, and rounds of these.
pub mod promises
