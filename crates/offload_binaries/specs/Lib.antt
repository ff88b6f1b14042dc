pub mod Held
pub mod Asked
