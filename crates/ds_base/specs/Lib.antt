pub mod Counts
pub mod Number
pub mod Order
pub mod Ordered
pub mod Same
