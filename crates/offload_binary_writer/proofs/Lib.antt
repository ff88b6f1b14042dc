pub mod PartLaws
pub mod WriteLaws
pub mod WholeLaws
