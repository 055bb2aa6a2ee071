pub mod Examples
pub mod FirstLine
pub mod Judged
pub mod Walks
