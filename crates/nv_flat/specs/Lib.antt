pub mod Flat
pub mod Listed
pub mod One
pub mod Transfer
pub mod Laws
pub mod Examples
