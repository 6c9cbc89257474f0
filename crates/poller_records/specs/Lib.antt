pub mod Record
pub mod Recording
pub mod Replay
pub mod PollerRun
pub mod BadLine
pub mod Held
pub mod Lines
