pub mod Booleans
pub mod Computing
