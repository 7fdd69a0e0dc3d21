-- The state of a ring, and the phase tags of its passes: Base Specification 2.0, "Memory-based Transport Queue Model", "Phase Tag". The terms for
-- slots that follow each other are in nv_model.
use Rattle.std.specs.Prelude.{ℕ, ◌≤◌, Bool, not, ◌==◌, if◌then◌else◌}
use Rattle.nv_model.specs.Limits.{most_slots}
use Rattle.nv_model.specs.Queue.{ahead, next_slot}

-- a ring of this many slots: the slot of its oldest entry, and the slot after its youngest
pub record Positions : Type 0 where
  pub size : ℕ
  pub head : ℕ
  pub tail : ℕ

-- how many slots a ring may have
abbrev pub FitsRing : (size : ℕ) → Type 0
FitsRing size = (2 ≤ size) × (size ≤ most_slots)

-- how many entries are in it
abbrev pub waiting : Positions → ℕ
waiting p = ahead p.size p.head p.tail

-- the phase tag of the pass that the slot after `at` is in: it is inverted at each wrap
abbrev pub phase_behind : (size at : ℕ) → Bool → Bool
phase_behind size at phase = if next_slot size at == 0 then not phase else phase
