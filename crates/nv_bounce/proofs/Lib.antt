pub mod Copies
pub mod Gathered
pub mod GuestMemory
pub mod Outcomes
pub mod Scattered
