mod Computed
mod Sums
mod Products
mod Masks
mod Turns
pub mod Slices
pub mod Laws
