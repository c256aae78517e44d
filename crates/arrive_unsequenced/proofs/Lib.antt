pub mod Calling
pub mod Placed
