-- Laws that proofs cite.
pub mod Layout
pub mod Dispatch
pub mod Operands
pub mod Simulation
pub mod Running
pub mod Demand
pub mod Heights
pub mod WordRuns
pub mod Rows
