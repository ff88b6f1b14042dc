pub mod SearchLaws
pub mod WriteLaws
pub mod CallLaws
