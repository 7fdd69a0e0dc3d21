pub mod Mediated
pub use Rattle.nv_mediator.specs.Refused
