-- A lane at its start.
use Rattle.std.proofs.Common.{◌≡◌, ℕ, zero, suc, Bool, true, List, replicate, Some, refl, sym, ap, ◌∙◌, subst, arith}
use Rattle.std.proofs.lemmas.List.{length-replicate}
use Rattle.nv_core.specs.Tags.{AreLed, AreUsed, IsNothing, IsUsed, IsWhole, tags_by, tags_of}
use Rattle.nv_core.specs.declared.progress.Progress.{Progress}
use Rattle.nv_core.specs.declared.progress.Progress.TheVariants as progress
use Rattle.nv_laws_sound.proofs.Lists.{slice_get-replicate}
use Rattle.nv_tags.specs.Tags.{Slot, command_in, slot_at}
use Rattle.nv_tags.specs.Tags as slot
use Rattle.nv_world_model.specs.Area.{tag_count}
use Rattle.nv_world_model.specs.World.{Free, Lane, Tag, opening_lane}

-- no tag has a command
free-there : (n tag : ℕ) → slot_at (replicate n slot.Free) tag ≡ slot.Free
free-there zero tag = refl
free-there (suc n) zero = refl
free-there (suc n) (suc tag) = free-there n tag

none-led : AreLed (replicate tag_count slot.Free)
none-led tag command is = (let free = ap command_in (free-there tag_count tag) in absurd (by (sym free ∙ is)))
  where
    by : command_in slot.Free ≡ Some command → ⊥
    by e = cc

none-used : AreUsed (replicate tag_count progress.Nothing) (replicate tag_count slot.Free)
none-used tag s p slot_is progress_is =
    let free = slice_get-replicate tag_count tag slot.Free s slot_is in
    let nothing = slice_get-replicate tag_count tag progress.Nothing p progress_is in
    subst (λ (x : Slot). IsUsed (replicate tag_count progress.Nothing) x p) free (subst IsNothing nothing tt)

pub opening-whole : (slots : List Slot) (ps : List Progress) → slots ≡ replicate tag_count slot.Free → ps ≡ replicate tag_count progress.Nothing
    → IsWhole 0 slots ps
opening-whole slots ps free nothing =
    subst (λ (x : List Slot). IsWhole 0 x ps) (sym free)
    (subst (λ (k : List Progress). IsWhole 0 (replicate tag_count slot.Free) k) (sym nothing)
    (record {
      head_is = omega arith;
      slots_are = length-replicate tag_count slot.Free;
      progress_is = length-replicate tag_count progress.Nothing;
      used = none-used;
      led = none-led;
    }))

-- no tag of a lane at its start is used
tags-free : tags_of (replicate 64 slot.Free) (replicate 64 progress.Nothing) ≡ replicate tag_count Free
unfolding tags_by
tags-free = refl

pub lane-is : (phase : Bool) (slots : List Slot) (ps : List Progress) → phase ≡ true → slots ≡ replicate tag_count slot.Free
    → ps ≡ replicate tag_count progress.Nothing → (let l : Lane = record { head = 0; phase = phase; tags = tags_of slots ps } in l) ≡ opening_lane
lane-is phase slots ps p s q =
    ap (λ (b : Bool). let l : Lane = record { head = 0; phase = b; tags = tags_of slots ps } in l) p
    ∙ ap (λ (t : List Slot). let l : Lane = record { head = 0; phase = true; tags = tags_of t ps } in l) s
    ∙ ap (λ (k : List Progress). let l : Lane = record { head = 0; phase = true; tags = tags_of (replicate tag_count slot.Free) k } in l) q
    ∙ ap (λ (t : List Tag). let l : Lane = record { head = 0; phase = true; tags = t } in l) tags-free
