pub mod PutLaws
pub mod TextLaws
pub mod FindLaws
pub mod ReadLaws
pub mod CompareLaws
