pub mod Asks
pub mod Covers
pub mod Evaluates
pub mod Joins
pub mod Keeps
pub mod Resolves
pub mod Rooms
pub mod Serves
