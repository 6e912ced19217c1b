pub mod Frame
pub mod Joining
pub mod Loops
pub mod Uniqueness
pub mod Values
