pub mod Rows
pub mod Slots
