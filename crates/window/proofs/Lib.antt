pub mod Marks
pub mod Moves
pub mod Settled
