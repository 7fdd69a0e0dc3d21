pub mod Guests
pub mod Openings
pub mod Runs
