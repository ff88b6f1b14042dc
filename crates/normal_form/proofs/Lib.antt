pub mod OrderLaws
pub mod EncodeLaws
pub mod GivenLaws
pub mod NormaliseLaws
pub mod WriterLaws
