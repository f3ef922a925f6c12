-- What the functions of Run ensure, demand 3 of Run, and document 02, (xi), of Run.
pub mod Demand
pub mod Appended
pub mod promises
pub mod laws
