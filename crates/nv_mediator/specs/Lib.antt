pub mod Hosted
pub mod Refused
