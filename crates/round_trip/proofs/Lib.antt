pub mod AveragesSettled
pub mod Laws
pub mod Settled
pub mod Sound
