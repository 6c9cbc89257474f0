pub mod Handed
pub mod Wanted
