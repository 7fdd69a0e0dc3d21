-- The tags of a lane that are at one point, by their slots.
use Rattle.std.proofs.Common.{◌≡◌, ℕ, Bool, List, refl, ap, sym, Some}
use Rattle.nv_core.specs.Tags.{IsUsed, IsWhole, ended_in, flying_in, is_ended, is_flying, is_taken, tag_made, tags_of, taken_in}
use Rattle.nv_core.specs.declared.progress.Progress.{Progress}
use Rattle.nv_core.proofs.GroupTags.{lane-where}
use Rattle.nv_core.proofs.TagLists.{made-at}
use Rattle.nv_tags.specs.Tags.{Slot, tags_where}
use Rattle.nv_tags.specs.Tags as slot
use Rattle.nv_world_model.specs.World.{Lane}

made-taken : (kept : List Progress) (s : Slot) (p : Progress) → IsUsed kept s p → is_taken (tag_made kept s p) ≡ slot.is_taken s
made-taken kept slot.Free p is = refl
made-taken kept (slot.Used command slot.Taken) p is = ap is_taken (made-at kept command slot.Taken p is).1
made-taken kept (slot.Used command slot.Flying) p is = ap is_taken (made-at kept command slot.Flying p is).1.1
made-taken kept (slot.Used command (slot.Ended st)) p is = ap is_taken (made-at kept command (slot.Ended st) p is).1

made-flying : (kept : List Progress) (s : Slot) (p : Progress) → IsUsed kept s p → is_flying (Some (tag_made kept s p)) ≡ slot.is_flying s
made-flying kept slot.Free p is = refl
made-flying kept (slot.Used command slot.Taken) p is = ap (λ t. is_flying (Some t)) (made-at kept command slot.Taken p is).1
made-flying kept (slot.Used command slot.Flying) p is = ap (λ t. is_flying (Some t)) (made-at kept command slot.Flying p is).1.1
made-flying kept (slot.Used command (slot.Ended st)) p is = ap (λ t. is_flying (Some t)) (made-at kept command (slot.Ended st) p is).1

made-ended : (kept : List Progress) (s : Slot) (p : Progress) → IsUsed kept s p → is_ended (tag_made kept s p) ≡ slot.is_ended s
made-ended kept slot.Free p is = refl
made-ended kept (slot.Used command slot.Taken) p is = ap is_ended (made-at kept command slot.Taken p is).1
made-ended kept (slot.Used command slot.Flying) p is = ap is_ended (made-at kept command slot.Flying p is).1.1
made-ended kept (slot.Used command (slot.Ended st)) p is = ap is_ended (made-at kept command (slot.Ended st) p is).1

module _ (head : ℕ) (phase : Bool) (slots : List Slot) (ps : List Progress) (old : Lane) (whole : IsWhole head slots ps)
    (view : (let l : Lane = record { head = head; phase = phase; tags = tags_of slots ps } in l) ≡ old) where
  pub taken-there : tags_where slot.is_taken slots ≡ taken_in (Some old)
  taken-there = sym (lane-where head phase slots ps old whole view is_taken slot.is_taken (made-taken ps))

  pub flying-there : tags_where slot.is_flying slots ≡ flying_in (Some old)
  flying-there = sym (lane-where head phase slots ps old whole view (λ t. is_flying (Some t)) slot.is_flying (made-flying ps))

  pub ended-there : tags_where slot.is_ended slots ≡ ended_in (Some old)
  ended-there = sym (lane-where head phase slots ps old whole view is_ended slot.is_ended (made-ended ps))
