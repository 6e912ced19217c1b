pub mod Adler
pub mod Sums
pub mod Layout
pub mod Slot
pub mod Header
pub mod Mixture
pub mod Laws
