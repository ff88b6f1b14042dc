pub mod NextLaws
pub mod Asked
