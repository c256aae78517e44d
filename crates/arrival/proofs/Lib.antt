pub mod Laws
pub mod Admitted
pub mod Settled
pub mod Cells
pub mod Marking
