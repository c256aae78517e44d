pub mod Calling
pub mod Sums
pub mod Sound
pub mod Moving
pub mod DispatchingLaws
pub mod DispatchingPlaces
