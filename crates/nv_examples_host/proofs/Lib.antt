pub mod Probes
pub mod Starting
