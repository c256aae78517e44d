pub mod Pings
pub mod PingSound
pub mod Joining
pub mod Sound
pub mod Taking
pub mod Stored
pub mod Setups
pub mod Placed
