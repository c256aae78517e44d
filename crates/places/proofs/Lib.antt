pub mod Sections
pub mod Written
pub mod GroupLaws
pub mod ChannelLaws
pub mod PoolLaws
pub mod WindowLaws
pub mod Sized
