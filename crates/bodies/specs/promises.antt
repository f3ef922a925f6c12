-- What functions promise one another; a reader who believes the proofs need not read them.
pub mod Scoping
pub mod ExpressionPost
pub mod StatementPost
pub mod OperatorPost
