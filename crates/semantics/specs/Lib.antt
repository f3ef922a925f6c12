-- Document 01, "The machine", and the operation Run; then rows of document 01 that are computed with these definitions.
pub mod Machine
pub mod Limits
pub mod Run
pub mod Ends
pub mod Mistakes
