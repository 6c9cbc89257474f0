pub mod Boxable
