pub mod Walking
pub mod Stepped
