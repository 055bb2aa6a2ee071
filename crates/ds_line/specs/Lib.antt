pub mod Events
pub mod Happenings
pub mod Requests
