pub mod Meaning
pub mod Measuring
pub mod Parting
pub mod Seeking
pub mod Sharing
pub mod Whole
