-- A course library joined to a lesson (document 02, (x)): the operation as a definition, and what holds of the joined text.
pub mod Library
pub mod Join
pub mod Copy
pub mod Rows
pub mod Found
pub mod Text
