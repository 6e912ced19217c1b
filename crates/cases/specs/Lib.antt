pub mod Store
pub mod Table
