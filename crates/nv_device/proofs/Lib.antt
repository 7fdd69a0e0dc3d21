mod HeldLemmas
pub mod HostReads
mod LaneLemmas
mod MoveLemmas
mod PageLemmas
mod SpellLemmas
mod TakeLemmas
mod UnitLemmas
mod UnitMarks
mod LeftLemmas
mod PagedLemmas
