use Rattle.std.proofs.Common.{◌≡◌, ℕ, false, length}
use Rattle.nv_c.specs.Work.{SlotRests}
use Rattle.nv_tags.proofs.Rows.{is_among}
use Rattle.nv_c.proofs.working.next_in_slots.Given as goal

abbrev pub invariant-loop-slot : goal.invariant-loop-slot
invariant-loop-slot l = (slot : ℕ) → is_among l.flying slot ≡ false → SlotRests l.lane l.mediator slot

abbrev pub decreases-loop-slot : goal.decreases-loop-slot
decreases-loop-slot l = length l.flying
