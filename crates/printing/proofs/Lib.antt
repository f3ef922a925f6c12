-- Theorems, and the laws that they rest on.
pub mod laws
pub mod Tidy
