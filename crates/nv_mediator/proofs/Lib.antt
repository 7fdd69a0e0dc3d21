pub mod Twos
pub mod Areas
pub mod Namespaces
pub mod Logs
pub mod Starts
pub mod Counts
pub mod Steps
pub mod Quiet
