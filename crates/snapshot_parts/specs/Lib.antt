pub mod Row
pub mod Stored
pub mod CodeRow
pub mod CodeStored
