pub mod Ranges
pub mod Sound
pub mod Going
pub mod Placed
