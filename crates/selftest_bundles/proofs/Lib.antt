pub mod Computing
pub mod EachCase
