pub mod shares
pub mod others
pub mod related
pub mod units
pub mod headline
