pub mod Bridge
pub mod Scan
pub mod Search
