pub mod Place
pub mod View
pub mod Rule
pub mod Steps
pub mod Laws
pub mod State
