pub mod Sound
pub mod Places
