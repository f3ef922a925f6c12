-- Words of code, how pieces of it are written, what the rows show, and what the writer ensures.
pub mod promises
pub mod laws
