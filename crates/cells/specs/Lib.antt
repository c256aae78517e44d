pub mod Runs
pub mod Free
