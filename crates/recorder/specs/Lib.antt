pub mod Devices
pub mod Run
pub mod Recorded
