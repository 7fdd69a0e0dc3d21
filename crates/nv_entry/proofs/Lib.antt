pub mod CompletionLemmas
pub mod SubmissionLemmas
