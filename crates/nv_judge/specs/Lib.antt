pub mod Need
pub mod Ranges
