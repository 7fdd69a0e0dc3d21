pub mod Maps
pub mod Examples
pub mod Parts
pub mod Chains
pub mod Parses
pub mod Shown
