pub mod NetEvents
pub mod Buckets
pub mod BlockEvents
pub mod Pauses
pub mod Answers
pub mod Runs
