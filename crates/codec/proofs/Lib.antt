mod Unique
mod Trying
mod Real
