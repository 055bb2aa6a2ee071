pub mod Examples
pub mod Fault
pub mod Lists
pub mod Members
pub mod Parts
pub mod Scalars
