pub mod Tied
pub mod Reaps
pub mod Contained
pub mod GivenCalls
