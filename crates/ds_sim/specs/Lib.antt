pub mod Done
pub mod Looks
pub mod Made
pub mod State
pub mod UnderWay
