pub mod Next
pub mod Seek
