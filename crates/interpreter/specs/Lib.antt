-- What a run of written code ensures.
pub mod promises
