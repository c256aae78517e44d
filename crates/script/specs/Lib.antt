pub mod Frames
pub mod Line
pub mod Row
