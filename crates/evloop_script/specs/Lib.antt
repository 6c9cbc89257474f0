pub mod Asked
pub mod Coming
pub mod FaultOf
pub mod Item
pub mod Name
pub mod Number
pub mod Printed
pub mod Scripted
