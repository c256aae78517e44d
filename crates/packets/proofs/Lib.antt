pub mod Cuts
pub mod Planning
