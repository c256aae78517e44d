pub mod QueueLaws
pub mod HeldLaws
