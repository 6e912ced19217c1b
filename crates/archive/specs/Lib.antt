pub mod Deeds
pub mod Entries
pub mod Sizes
