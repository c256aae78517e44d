pub mod SearchLaws
pub mod StoreLaws
pub mod Calling
