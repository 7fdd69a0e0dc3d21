pub mod Kept
pub mod Rounds
pub mod Events
pub mod Handed
pub mod Posts
pub mod Ends
pub mod Steps
