pub mod Hearing
pub mod Settled
pub mod Counted
pub mod Changes
pub mod RemovalLaws
pub mod RemovalChanges
