pub mod Words
pub mod Digits
pub mod Errors
pub mod Orders
pub mod Verbs
pub mod Arguments
pub mod Meaning
