pub mod Gathered
pub mod Gathering
pub mod Laws
pub mod Numbered
pub mod Places
pub mod Roomy
