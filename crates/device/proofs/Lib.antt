-- Laws that the proofs of the device cite, where the check does not find the return alone.
pub mod StateLaws
pub mod CatchLaws
