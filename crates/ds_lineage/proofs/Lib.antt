pub mod Examples
pub mod Lasts
pub mod Spans
pub mod Walks
