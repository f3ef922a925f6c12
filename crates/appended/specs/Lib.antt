-- Classes behind those of a lesson (document 02, (xi)): what the statements name, and the laws they rest on (guarantees/Appended).
pub mod More
pub mod Moved
pub mod Behind
