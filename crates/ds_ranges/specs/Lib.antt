pub mod Alike
pub mod Layout
pub mod Places
pub mod Serving
pub mod Slots
pub mod Sound
pub mod Touching
