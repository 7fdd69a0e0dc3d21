pub mod ReplayVocabulary
pub mod ReplaySetUp
pub mod ReplayEvents
pub mod ReplayScript
pub mod ReplayRows
