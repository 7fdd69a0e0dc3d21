pub mod ReplayScriptLemmas
pub mod SetUpLemmas
pub mod LeadingLemmas
