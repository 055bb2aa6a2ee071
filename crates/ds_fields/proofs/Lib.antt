pub mod Each
pub mod FewItems
pub mod Texts
