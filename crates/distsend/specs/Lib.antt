pub mod Ends
pub mod Exit
pub mod Parts
pub mod Texts
