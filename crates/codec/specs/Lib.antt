pub mod WorkOut
pub mod Stands
