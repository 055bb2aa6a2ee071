pub mod Examples
pub mod GroupFacts
pub mod LegalFacts
pub mod MixFacts
pub mod NumberFacts
pub mod PartFacts
pub mod RuleFacts
