pub mod Meet
pub mod Relations
pub mod Pairs
