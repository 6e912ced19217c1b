pub mod Parting
pub mod Finding
pub mod Counting
pub mod Standing
pub mod Placing
pub mod Taking
pub mod Rereads
pub mod Viewing
