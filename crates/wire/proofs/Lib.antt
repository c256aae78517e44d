pub mod ShapeLaws
pub mod BuildSettled
pub mod ReadLaws
pub mod WriteLaws
pub mod Settled
pub mod RoundTrip
