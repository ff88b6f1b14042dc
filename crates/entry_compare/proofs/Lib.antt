pub mod TestLaws
pub mod KindLaws
