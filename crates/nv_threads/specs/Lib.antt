pub mod Counting
pub mod Finished
pub mod Told
