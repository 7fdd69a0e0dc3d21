pub mod Refused
pub mod Opening
pub mod Shown
