-- Tags whose parts were handed on: how they end.
use Rattle.std.proofs.Common.{◌≡◌, ℕ, ◌<◌, Bool, List, length, set, slice_get, Option, Some, None, refl, sym, ap, ◌∙◌, subst}
use Rattle.nv_core.specs.Handing.{part_ended}
use Rattle.nv_core.specs.Tags.{HasCommand, IsUsed, IsWhole, ended_as, ended_tag, flying_as, flying_tag, part_in, plan_in, plan_kept, state_in}
use Rattle.nv_core.specs.Tags.{tag_made, tags_of}
use Rattle.nv_core.specs.declared.progress.Progress.{Progress}
use Rattle.nv_core.specs.declared.progress.Progress.TheVariants as progress
use Rattle.nv_core.proofs.LaneTags.{lane-changed, lane-kept, lane-whole, led-set, moved-slot}
use Rattle.nv_core.proofs.TagLists.{IsNext, made-at, slot-got}
use Rattle.nv_entry.specs.Status.{StatusField}
use Rattle.nv_plan.specs.Made.{MadePlan, share_made}
use Rattle.nv_tags.specs.Tags.{Point, Slot, command_in, slot_at, with_point}
use Rattle.nv_tags.specs.Tags as slot
use Rattle.nv_tags.specs.declared.state.TagState.TheVariants as state
use Rattle.nv_world_model.specs.Share.{Share}
use Rattle.nv_world_model.specs.World.{Command, Ended, Flying, Free, Lane, Standing, Tag, Taken, tag_changed}

-- ---- a part that was handed on

pub record IsFlyingTag (t : Option Tag) : Type 0 where
  pub command : Command
  pub share : Share
  pub standing : Standing
  pub is : t ≡ Some (Flying command share standing)

pub flying-tag : (t : Option Tag) → state_in t ≡ Some state.Flying → IsFlyingTag t
flying-tag None e = cc
flying-tag (Some Free) e = cc
flying-tag (Some (Taken command reads)) e = cc
flying-tag (Some (Flying command share standing)) e = record { command = command; share = share; standing = standing; is = refl }
flying-tag (Some (Ended command st share)) e = cc

-- its slot
flying-slot : (kept : List Progress) (s : Slot) (p : Progress) (command : Command) (share : Share) (standing : Standing) → IsUsed kept s p
    → tag_made kept s p ≡ Flying command share standing → s ≡ slot.Used command slot.Flying
flying-slot kept slot.Free p command share standing is e = cc
flying-slot kept (slot.Used c slot.Taken) p command share standing is e =
    let at = made-at kept c slot.Taken p is in
    let other : Flying command share standing ≡ Taken c at.0 = sym e ∙ at.1 in cc
flying-slot kept (slot.Used c slot.Flying) p command share standing is e =
    let at = made-at kept c slot.Flying p is in
    let same : Flying c at.0 at.1.0 ≡ Flying command share standing = sym at.1.1 ∙ e in
    let whose : c ≡ command = cc in
    ap (λ (d : Command). slot.Used d slot.Flying) whose
flying-slot kept (slot.Used c (slot.Ended st)) p command share standing is e =
    let at = made-at kept c (slot.Ended st) p is in
    let other : Flying command share standing ≡ Ended c st at.0 = sym e ∙ at.1 in cc

-- it has ended
as-ended : (command : Command) (o : Option Share) (share : Share) (standing : Standing) (st : StatusField)
    → flying_as command o ≡ Flying command share standing → ended_as command st o ≡ Ended command st (Some share)
as-ended command None share standing st e = cc
as-ended command (Some s) share standing st e = let same : s ≡ share = cc in ap (λ (x : Share). Ended command st (Some x)) same

ended-made : (led : Option MadePlan) (command : Command) (p : Progress) (share : Share) (standing : Standing) (st : StatusField)
    → flying_tag led command p ≡ Flying command share standing → ended_tag led command st (part_ended p) ≡ Ended command st (Some share)
ended-made led command progress.Nothing share standing st e = cc
ended-made led command (progress.Reading reads) share standing st e = cc
ended-made led command (progress.Going plan) share standing st e = as-ended command (share_made 0 plan) share standing st e
ended-made led command (progress.Over plan) share standing st e = cc
ended-made led command (progress.Part part) share standing st e = as-ended command (part_in part led) share standing st e
ended-made led command (progress.PartOver part) share standing st e = cc

ended-plan : (p : Progress) → plan_kept (part_ended p) ≡ plan_kept p
ended-plan progress.Nothing = refl
ended-plan (progress.Reading reads) = refl
ended-plan (progress.Going plan) = refl
ended-plan (progress.Over plan) = refl
ended-plan (progress.Part part) = refl
ended-plan (progress.PartOver part) = refl

-- ---- in a lane

pub record FliesAt (slots : List Slot) (ps : List Progress) (tag : ℕ) (command : Command) (share : Share) (standing : Standing) : Type 0 where
  pub progress : Progress
  pub below : tag < length slots
  pub there : slice_get slots tag ≡ Some (slot.Used command slot.Flying)
  pub slot_is : slot_at slots tag ≡ slot.Used command slot.Flying
  pub progress_is : slice_get ps tag ≡ Some progress
  pub made : flying_tag (plan_in (slice_get ps command.leader)) command progress ≡ Flying command share standing

module _ (head : ℕ) (phase : Bool) (slots : List Slot) (ps : List Progress) (old : Lane) (whole : IsWhole head slots ps)
    (view : (let l : Lane = record { head = head; phase = phase; tags = tags_of slots ps } in l) ≡ old)
    (tag : ℕ) (command : Command) (share : Share) (standing : Standing) (seen : slice_get old.tags tag ≡ Some (Flying command share standing)) where
  pub flies-at : FliesAt slots ps tag command share standing
  flies-at =
      let k = lane-kept head phase slots ps old whole view tag (Flying command share standing) seen in
      let is = flying-slot ps k.slot k.progress command share standing (whole.used tag k.slot k.progress k.slot_is k.progress_is) k.made in
      let there : slice_get slots tag ≡ Some (slot.Used command slot.Flying) = k.slot_is ∙ ap (λ (s : Slot). Some s) is in
      record {
        progress = k.progress;
        below = k.below;
        there = there;
        slot_is = slot-got slots tag (slot.Used command slot.Flying) there;
        progress_is = k.progress_is;
        made = sym (ap (λ (s : Slot). tag_made ps s k.progress) is) ∙ k.made;
      }

  flies-led : (point : Point) → (f : FliesAt slots ps tag command share standing) → command_in (slot.Used command point) ≡ command_in (slot_at slots tag)
  flies-led point f = sym (ap command_in f.slot_is)

  -- how it ends
  ends-next : (st : StatusField) (p : Progress) → (f : FliesAt slots ps tag command share standing) → p ≡ part_ended f.progress
      → IsNext slots ps tag (slot.Used command (slot.Ended st)) p (Ended command st (Some share))
  ends-next st p f is =
      let made : tag_made ps (slot.Used command (slot.Ended st)) p ≡ Ended command st (Some share) =
      ap (λ (q : Progress). tag_made ps (slot.Used command (slot.Ended st)) q) is
      ∙ ended-made (plan_in (slice_get ps command.leader)) command f.progress share standing st f.made in
      record {
        below = f.below;
        before = f.progress;
        before_is = f.progress_is;
        stays = λ plan kept. ap plan_kept is ∙ ended-plan f.progress ∙ kept;
        used = subst HasCommand (sym made) tt;
        made = made;
      }

  pub ends-whole : (i : ℕ) (st : StatusField) (p : Progress) (new : List Slot) → (f : FliesAt slots ps tag command share standing) → i ≡ tag
      → new ≡ with_point (slot.Ended st) tag slots → p ≡ part_ended f.progress → IsWhole head new (set ps i p)
  ends-whole i st p new f number ended is =
      lane-whole head phase slots ps old whole view tag i (slot.Used command (slot.Ended st)) p (Ended command st (Some share)) new number
      (ended ∙ moved-slot slots tag command slot.Flying (slot.Ended st) f.slot_is) (ends-next st p f is)
      (led-set slots tag (slot.Used command (slot.Ended st)) whole.led f.below (flies-led (slot.Ended st) f))

  pub ends-changed : (i : ℕ) (st : StatusField) (p : Progress) (new : List Slot) → (f : FliesAt slots ps tag command share standing) → i ≡ tag
      → new ≡ with_point (slot.Ended st) tag slots → p ≡ part_ended f.progress
      → (let l : Lane = record { head = head; phase = phase; tags = tags_of new (set ps i p) } in l) ≡ tag_changed tag (Ended command st (Some share)) old
  ends-changed i st p new f number ended is =
      lane-changed head phase slots ps old whole view tag i (slot.Used command (slot.Ended st)) p (Ended command st (Some share)) new number
      (ended ∙ moved-slot slots tag command slot.Flying (slot.Ended st) f.slot_is) (ends-next st p f is)
