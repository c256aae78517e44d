pub mod Averages
pub mod Interval
pub mod Calls
