pub mod Administering
pub mod Cases
pub mod Dues
pub mod Effects
pub mod Exits
pub mod PageBuffers
pub mod Steps
pub mod Written
