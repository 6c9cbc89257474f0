pub mod LinesSoFar
pub mod Replies
