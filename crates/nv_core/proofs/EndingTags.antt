-- Tags whose parts have ended, looked up in their lane.
use Rattle.std.proofs.Common.{◌≡◌, ℕ, ◌<◌, Bool, List, length, slice_get, Option, Some, sym, ap, ◌∙◌}
use Rattle.nv_core.specs.Tags.{IsUsed, IsWhole, ended_tag, plan_in, tag_made, tags_of}
use Rattle.nv_core.specs.declared.progress.Progress.{Progress}
use Rattle.nv_core.proofs.LaneTags.{lane-kept}
use Rattle.nv_core.proofs.TagLists.{made-at, slot-got}
use Rattle.nv_entry.specs.Status.{StatusField}
use Rattle.nv_tags.specs.Tags.{Slot, slot_at}
use Rattle.nv_tags.specs.Tags as slot
use Rattle.nv_world_model.specs.Share.{Share}
use Rattle.nv_world_model.specs.World.{Command, Ended, Flying, Lane, Taken}

-- its slot
ended-slot : (kept : List Progress) (s : Slot) (p : Progress) (command : Command) (st : StatusField) (share : Option Share) → IsUsed kept s p
    → tag_made kept s p ≡ Ended command st share → s ≡ slot.Used command (slot.Ended st)
ended-slot kept slot.Free p command st share is e = cc
ended-slot kept (slot.Used c slot.Taken) p command st share is e =
    let at = made-at kept c slot.Taken p is in
    let other : Ended command st share ≡ Taken c at.0 = sym e ∙ at.1 in cc
ended-slot kept (slot.Used c slot.Flying) p command st share is e =
    let at = made-at kept c slot.Flying p is in
    let other : Ended command st share ≡ Flying c at.0 at.1.0 = sym e ∙ at.1.1 in cc
ended-slot kept (slot.Used c (slot.Ended x)) p command st share is e =
    let at = made-at kept c (slot.Ended x) p is in
    let same : Ended c x at.0 ≡ Ended command st share = sym at.1 ∙ e in
    let whose : c ≡ command = cc in
    let with : x ≡ st = cc in
    ap (λ (d : Command). slot.Used d (slot.Ended x)) whose ∙ ap (λ (y : StatusField). slot.Used command (slot.Ended y)) with

pub record EndedAt (slots : List Slot) (ps : List Progress) (tag : ℕ) (command : Command) (st : StatusField) (share : Option Share) : Type 0 where
  pub progress : Progress
  pub below : tag < length slots
  pub there : slice_get slots tag ≡ Some (slot.Used command (slot.Ended st))
  pub slot_is : slot_at slots tag ≡ slot.Used command (slot.Ended st)
  pub progress_is : slice_get ps tag ≡ Some progress
  pub made : ended_tag (plan_in (slice_get ps command.leader)) command st progress ≡ Ended command st share

module _ (head : ℕ) (phase : Bool) (slots : List Slot) (ps : List Progress) (old : Lane) (whole : IsWhole head slots ps)
    (view : (let l : Lane = record { head = head; phase = phase; tags = tags_of slots ps } in l) ≡ old) where
  pub ended-at : (tag : ℕ) (command : Command) (st : StatusField) (share : Option Share) → slice_get old.tags tag ≡ Some (Ended command st share)
      → EndedAt slots ps tag command st share
  ended-at tag command st share seen =
      let k = lane-kept head phase slots ps old whole view tag (Ended command st share) seen in
      let is = ended-slot ps k.slot k.progress command st share (whole.used tag k.slot k.progress k.slot_is k.progress_is) k.made in
      let there : slice_get slots tag ≡ Some (slot.Used command (slot.Ended st)) = k.slot_is ∙ ap (λ (s : Slot). Some s) is in
      record {
        progress = k.progress;
        below = k.below;
        there = there;
        slot_is = slot-got slots tag (slot.Used command (slot.Ended st)) there;
        progress_is = k.progress_is;
        made = sym (ap (λ (s : Slot). tag_made ps s k.progress) is) ∙ k.made;
      }
