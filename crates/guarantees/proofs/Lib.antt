-- Theorems, and the laws that they rest on.
pub mod laws
pub mod TreeAppended
pub mod RunAppended
pub mod Appended
pub mod Demand
