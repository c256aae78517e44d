pub mod HoldingLaws
pub mod HoldingPlaces
pub mod Calling
pub mod Placed
