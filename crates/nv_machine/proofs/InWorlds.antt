-- How what changes in a call changes the world that it is made in.
use Rattle.std.proofs.Common.{◌≡◌, ℕ, zero, suc, List, [], ◌∷◌, length, set, slice_get, Option, Some, None, arith, refl, sym, ap, ◌∙◌}
use Rattle.nv_laws_sound.specs.Side.{rung_with}
use Rattle.nv_laws_sound.proofs.Lists.{some-same}
use Rattle.nv_laws_sound.proofs.Tails.{rung-same}
use Rattle.nv_machine.specs.Doing.{Called, Doing, tag_put, tags_put, tail_put, told}
use Rattle.nv_machine.specs.Effects.{Effect, effects_on}
use Rattle.nv_machine.specs.InWorld.{called_in, in_world, side_of}
use Rattle.nv_machine.proofs.Effects.{effects_on-append}
use Rattle.nv_model.specs.Queue.{next_slot}
use Rattle.nv_world_model.specs.Area.{ring_size}
use Rattle.nv_world_model.specs.Device.{DeviceLane, rung}
use Rattle.nv_world_model.specs.Step.{After}
use Rattle.nv_world_model.specs.World.{Tag, World, changed_at, with_device, with_host, with_tags}

-- a call in a world comes to what an event does there
abbrev pub Is : World → Called → After → Type 0
Is w c a = called_in w c ≡ Some a

-- a call that begins is made in the world itself
pub in-first : (w : World) → in_world w (record { side = side_of w; effects = [] }) ≡ w
unfolding effects_on
in-first w = ap (λ (ds : List DeviceLane). let v : World = record w { device = ds } in v) (rung-same w.device)

-- a doorbell that is written
rung-next : (ts : List ℕ) (ds : List DeviceLane) (lane tail : ℕ) → length ts ≡ length ds → slice_get ts lane ≡ Some tail
    → rung_with (set ts lane (next_slot ring_size tail)) ds ≡ changed_at (slice_get (rung_with ts ds) lane) lane rung (rung_with ts ds)
rung-next [] ds lane tail many there = cc
rung-next (t ∷ ts) [] lane tail many there = cc
rung-next (t ∷ ts) (d ∷ ds) zero tail many there =
    ap (λ (n : ℕ). record d { tail = next_slot ring_size n } ∷ rung_with ts ds) (sym (some-same t tail there))
rung-next (t ∷ ts) (d ∷ ds) (suc lane) tail many there =
    ap (λ (es : List DeviceLane). record d { tail = t } ∷ es) (rung-next ts ds lane tail (omega (arith, many)) there)
    ∙ later (slice_get (rung_with ts ds) lane)
  where
    later : (o : Option DeviceLane) → (let e : DeviceLane = record d { tail = t } in e) ∷ changed_at o lane rung (rung_with ts ds)
        ≡ changed_at o (suc lane) rung ((let e : DeviceLane = record d { tail = t } in e) ∷ rung_with ts ds)
    later None = refl
    later (Some d) = refl

-- each lane of the physical controller has the tail of its doorbell
pub rung-there : (ts : List ℕ) (ds : List DeviceLane) (lane tail : ℕ) → length ts ≡ length ds → slice_get ts lane ≡ Some tail
    → (e : DeviceLane) × (slice_get (rung_with ts ds) lane ≡ Some (record e { tail = tail }))
rung-there [] ds lane tail many there = cc
rung-there (t ∷ ts) [] lane tail many there = cc
rung-there (t ∷ ts) (d ∷ ds) zero tail many there =
    (d, ap (λ (n : ℕ). let e : DeviceLane = record d { tail = n } in Some e) (some-same t tail there))
rung-there (t ∷ ts) (d ∷ ds) (suc lane) tail many there = rung-there ts ds lane tail (omega (arith, many)) there

pub no-rung : (ts : List ℕ) (ds : List DeviceLane) (lane : ℕ) → length ts ≡ length ds → slice_get ts lane ≡ None
    → slice_get (rung_with ts ds) lane ≡ None
no-rung [] [] lane many none = refl
no-rung [] (d ∷ ds) lane many none = cc
no-rung (t ∷ ts) [] lane many none = refl
no-rung (t ∷ ts) (d ∷ ds) zero many none = cc
no-rung (t ∷ ts) (d ∷ ds) (suc lane) many none = no-rung ts ds lane (omega (arith, many)) none

module _ (w : World) where
  pub in-told : (effects : List Effect) (m : Doing)
      → in_world w (told effects m) ≡ with_host (effects_on effects (in_world w m).host) (in_world w m)
  in-told effects m =
      ap (λ (h : ℕ → ℕ). let v : World = record (in_world w m) { host = h } in v) (effects_on-append m.effects effects w.host)

  pub in-tags_put : (lane : ℕ) (tags : List ℕ) (t : Tag) (m : Doing) → in_world w (tags_put lane tags t m) ≡ with_tags lane tags t (in_world w m)
  unfolding tags_put with_tags
  in-tags_put lane [] t m = refl
  in-tags_put lane (tag ∷ tags) t m = in-tags_put lane tags t (tag_put lane tag t m)

  pub in-tail_put : (lane tail : ℕ) (m : Doing) → length m.side.tails ≡ length w.device → slice_get m.side.tails lane ≡ Some tail
      → in_world w (tail_put lane (next_slot ring_size tail) m) ≡ with_device lane rung (in_world w m)
  in-tail_put lane tail m many there =
      ap (λ (ds : List DeviceLane). let v : World = record (in_world w m) { device = ds } in v) (rung-next m.side.tails w.device lane tail many there)
