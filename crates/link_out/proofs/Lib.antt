pub mod Calling
pub mod Settled
