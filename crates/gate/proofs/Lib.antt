pub mod Groups
pub mod Held
pub mod Order
pub mod Stops
pub mod Sums
pub mod Three
pub mod Turns
