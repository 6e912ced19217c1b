pub mod Adding
pub mod Reading
pub mod Numbers
pub mod Writing
pub mod Clearing
pub mod Standing
pub mod Tearing
