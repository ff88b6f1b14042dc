pub mod Examples
pub mod EachExamples
pub mod LookupExamples
pub mod CompareExamples
