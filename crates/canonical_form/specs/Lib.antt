pub mod Made
pub mod Heads
pub mod Spans
