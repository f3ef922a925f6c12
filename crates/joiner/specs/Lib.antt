-- What the functions of Join promise one another.
pub mod promises
pub mod laws
