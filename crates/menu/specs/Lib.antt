-- The operation Menu as a definition, theorems on its order, and what its functions ensure.
pub mod Menu
pub mod InOrder
pub mod promises
