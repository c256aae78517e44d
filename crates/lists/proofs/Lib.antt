pub mod Mapped
pub mod Kept
pub mod Placed
