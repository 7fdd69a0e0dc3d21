pub mod Castings
pub mod Drives
pub mod Openings
pub mod Plays
pub mod Printings
