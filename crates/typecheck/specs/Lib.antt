-- What the functions of Check ensure.
pub mod promises
