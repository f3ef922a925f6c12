-- What holds of every source, in document 01's terms: its tokens, Read, Check and demand 2.
pub mod Tokens
pub mod Numbers
pub mod Refusals
pub mod Read
pub mod Kinds
pub mod Accepted
pub mod Check
pub mod laws
