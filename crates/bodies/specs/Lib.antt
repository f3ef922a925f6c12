-- What the functions that judge bodies ensure.
pub mod promises
