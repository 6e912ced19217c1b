pub mod Filing
pub mod Standing
