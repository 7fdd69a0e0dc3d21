pub mod JobLemmas
pub mod LineLemmas
pub mod OnceLemmas
pub mod RunLemmas
pub mod ShownLemmas
