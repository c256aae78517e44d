pub mod Reading
pub mod GroupLaws
pub mod Writing
