pub mod Last
pub mod Nodes
