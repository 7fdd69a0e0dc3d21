pub mod Tags
pub mod Kept
pub mod Laws
pub mod Numbers
