pub mod WriteLaws
pub mod RestoreLaws
pub mod Settled
pub mod Sound
