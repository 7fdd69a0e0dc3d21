pub mod Opening
pub mod Driving
pub mod Parts
pub mod Played
pub mod Shown
