pub mod Examples
pub mod Hits
pub mod RowSteps
