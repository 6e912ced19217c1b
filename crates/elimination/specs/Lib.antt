pub mod Polynomial
pub mod Matrix
pub mod Shape
pub mod Interpolation
