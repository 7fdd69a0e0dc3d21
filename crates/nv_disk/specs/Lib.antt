pub mod Stored
pub mod Since
pub mod Flat
pub mod Buffer
pub mod Marks
