pub mod Endings
pub mod Examples
pub mod Limits
pub mod Rooms
pub mod Written
