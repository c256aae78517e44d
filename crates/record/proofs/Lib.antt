pub mod ChannelLaws
pub mod FlagLaws
pub mod Views
pub mod Keeps
pub mod KindLaws
