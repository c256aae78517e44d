pub mod Flags
pub mod Rows
pub mod Shapes
pub mod Layout
pub mod Bytes
