pub mod Flags
pub mod Runs
pub mod Settled
