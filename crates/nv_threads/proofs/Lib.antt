pub mod Acts
pub mod Finishes
pub mod Replies
