pub mod Receiving
pub mod Sound
pub mod Settled
pub mod Taking
