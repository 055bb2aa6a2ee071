pub mod Contains
pub mod Descs
pub mod Replicas
