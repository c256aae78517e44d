pub mod Overdue
pub mod Walking
