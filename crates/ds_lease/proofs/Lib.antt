pub mod Examples
pub mod TurnFacts
