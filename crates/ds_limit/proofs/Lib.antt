pub mod Examples
pub mod RestFacts
