pub mod Messages
pub mod RefusalText
pub mod Ends
pub mod Steps
pub mod Room
pub mod Tracked
pub mod History
