pub mod Made
pub mod Calls
pub mod Given
