pub mod Meters
pub mod Devices
pub mod Again
