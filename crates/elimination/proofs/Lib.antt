pub mod Roots
pub mod Combine
pub mod Steps
pub mod Blocks
pub mod Points
pub mod Solution
pub mod Cells
pub mod Shapes
