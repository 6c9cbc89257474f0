pub mod Peers
pub mod Asks
