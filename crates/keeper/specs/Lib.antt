pub mod Object
pub mod Readings
pub mod Steps
pub mod Shown
pub mod Rules
pub mod Real
pub mod Found
