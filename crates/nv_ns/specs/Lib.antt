pub mod BlockRange
pub mod Extents
pub mod Laws
pub mod Filled
pub mod Joined
pub mod Listed
