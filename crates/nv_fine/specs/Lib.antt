pub mod Drive
pub mod Fine
pub mod Turns
pub mod Reach
pub mod Owned
pub mod Whose
pub mod Rows
