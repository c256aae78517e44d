pub mod BackLaws
pub mod Walking
pub mod Early
pub mod PlaceLaws
pub mod Settled
