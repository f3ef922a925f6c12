-- Rows of document 01, "Benches to pass", and of our own, as theorems about the definitions.
pub mod Answers
pub mod Starred
pub mod Further
pub mod Arrays
pub mod Climbs
pub mod AppendedRows
pub mod Ports
pub mod Thousandths
pub mod Stuck
pub mod Endless
pub mod MenuRows
pub mod AnswerRows
pub mod ManyTokens
pub mod Worthless
