pub mod Examined
pub mod Slots
