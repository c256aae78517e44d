pub mod Whole
pub mod Updates
