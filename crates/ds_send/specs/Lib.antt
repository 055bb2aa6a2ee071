pub mod Asked
pub mod Batched
pub mod Calls
pub mod Causes
pub mod Forms
pub mod Moving
pub mod Sender
pub mod Settled
