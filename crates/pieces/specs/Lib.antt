pub mod Given
pub mod Outcomes
pub mod Refusals
pub mod Rows
pub mod Unsolved
