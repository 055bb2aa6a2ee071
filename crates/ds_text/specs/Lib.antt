pub mod Faults
pub mod Lines
pub mod Log
pub mod Prints
pub mod Ranges
pub mod Replies
pub mod Simple
