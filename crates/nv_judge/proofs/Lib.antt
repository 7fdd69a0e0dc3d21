pub mod FieldLemmas
pub mod RangeLemmas
