pub mod Blocks
pub mod Writing
