-- The code of a program, the machine that runs it, and that it does what the tree machine does. Demand states the theorems about code,
-- WordRuns those about bare words.
pub mod promises
