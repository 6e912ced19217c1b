pub mod Byte
pub mod Field
pub mod Slices
