pub mod Entries
pub mod Insert
pub mod Laws
pub mod Nearest
pub mod Outdating
pub mod Placing
pub mod Uses
