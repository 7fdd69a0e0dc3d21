pub mod Entries
pub mod Ringing
pub mod Fields
pub mod Mapped
pub mod Places
pub mod Whole
