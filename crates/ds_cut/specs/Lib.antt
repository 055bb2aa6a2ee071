pub mod Fates
pub mod Pieces
pub mod Seek
pub mod Within
