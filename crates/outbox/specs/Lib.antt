pub mod Counting
pub mod Pieces
pub mod CodeOutboxes
pub mod CodePlaces
