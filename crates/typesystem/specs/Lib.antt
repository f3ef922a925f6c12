-- Document 01, "Class table and types", and the operation Check.
pub mod ClassTable
pub mod Operators
pub mod Judge
pub mod Declarations
pub mod Check
pub mod TypingRules
pub mod laws
