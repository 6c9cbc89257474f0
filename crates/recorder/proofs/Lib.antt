pub mod Functions
pub mod Answered
pub mod SameRun
