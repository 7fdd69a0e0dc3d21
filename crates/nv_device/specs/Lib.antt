pub mod State
pub mod Physical
pub mod Units
pub mod Pages
pub mod Taking
pub mod Moving
pub mod Posting
