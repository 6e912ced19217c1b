pub mod File
pub mod Table
