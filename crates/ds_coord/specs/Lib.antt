pub mod Agrees
pub mod Client
