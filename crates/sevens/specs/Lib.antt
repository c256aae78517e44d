pub mod Groups
pub mod Form
