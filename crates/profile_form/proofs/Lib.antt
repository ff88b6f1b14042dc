pub mod TableLaws
pub mod PartLaws
pub mod SeekLaws
pub mod WriteLaws
pub mod FormLaws
pub mod MadeLaws
