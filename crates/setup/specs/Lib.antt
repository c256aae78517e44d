pub mod Pings
pub mod Queueing
pub mod Calls
pub mod Taking
