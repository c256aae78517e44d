pub mod Built
pub mod Decoded
pub mod Reading
pub mod Writing
pub mod RoundTrip
pub mod Steps
