pub mod WakeUps
pub mod Rooms
pub mod Order
