pub mod Arrivals
pub mod Window
pub mod Storing
