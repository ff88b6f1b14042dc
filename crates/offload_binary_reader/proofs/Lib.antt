pub mod ReadLaws
pub mod BodyLaws
