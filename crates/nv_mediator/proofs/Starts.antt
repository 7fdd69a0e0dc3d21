-- The world of a set-up that is not refused, at its start.
use Rattle.std.proofs.Common.{◌≡◌, ℕ, zero, suc, ◌<◌, List, [], ◌∷◌, ◌++◌, length, slice_get, None, Some, arith, refl, sym, subst, ap, ◌∙◌}
use Rattle.std.proofs.lemmas.List.{length-replicate}
use Rattle.nv_core.specs.State.{IsOpening, State}
use Rattle.nv_device.specs.Physical.{FitsLimits}
use Rattle.nv_laws_sound.proofs.CountedRuns.{opening-counted}
use Rattle.nv_laws_sound.proofs.LaidOuts.{accepted, all-one, host-laid-out, limit-fits, script-accepted, sizes-of}
use Rattle.nv_laws_sound.proofs.Openings.{opening-consistent}
use Rattle.nv_laws_sound.proofs.phases.Steps.{blank-clear, opening-phased}
use Rattle.nv_laws_sound.specs.Consistent.{IsConsistent}
use Rattle.nv_laws_sound.specs.Counted.{IsCounted}
use Rattle.nv_laws_sound.specs.LaidOut.{IsLaidOut}
use Rattle.nv_laws_sound.specs.Phased.{ArePhased}
use Rattle.nv_mem.specs.GuestMap.{IsSound}
use Rattle.nv_mediator.proofs.Logs.{log-none}
use Rattle.nv_mediator.proofs.Namespaces.{guest-namespace}
use Rattle.nv_mediator.specs.Hosted.{Hosted, IsAtStart, IsHosted, MayBeGiven, setup_of}
use Rattle.nv_world_model.specs.Geometry.{Geometry, Guest}
use Rattle.nv_world_model.specs.SetUp.{SetUp, guest_fits, refusal_of, script_limits}
use Rattle.nv_world_model.specs.World.{World, opening_lane, opening_world}

-- what its guests' extents and its sizes come to
pub may-be-given : (s : SetUp) → refusal_of s ≡ None → (number : ℕ) (guest : Guest) → slice_get s.geometry.guests number ≡ Some guest → MayBeGiven guest
may-be-given s none number guest at =
    let sizes = sizes-of script_limits s (accepted s none).sizes in
    let fits = all-one (guest_fits s) s.geometry.guests number guest sizes.guests at in
    let limit = limit-fits s guest fits in
    let few = sizes.few_blocks in
    record { blocks = guest-namespace s guest fits (omega (arith, few)); limit = record { some = limit.0; most = limit.1 } }

pub lanes-small : (s : SetUp) → refusal_of s ≡ None → s.lanes < 256
lanes-small s none = let few = (sizes-of script_limits s (accepted s none).sizes).few_lanes in omega (arith, few)

pub fits-limits : (s : SetUp) → refusal_of s ≡ None → FitsLimits s.geometry.mediator s.lanes s.geometry.disk_blocks
fits-limits s none =
    let sizes = sizes-of script_limits s (accepted s none).sizes in
    let some = sizes.some_lanes in
    let blocks = sizes.some_blocks in
    let area = sizes.area in
    let few = sizes.few in
    record {
      pages = sizes.pages;
      some_lanes = omega (arith, some);
      most_lanes = sizes.few_lanes;
      some_blocks = omega (arith, blocks);
      most_blocks = sizes.few_blocks;
      area = omega (arith, area, few);
    }

module _ (s : SetUp) (core : State) (opening : IsOpening s.geometry s.host_bytes s.lanes core) where
  lanes-are : length core.lanes ≡ s.lanes
  unfolding opening_world
  lanes-are = ap (λ (w : World). length w.lanes) opening.world ∙ length-replicate s.lanes opening_lane

  setup-is : setup_of (record { geometry = s.geometry; state = core }) ≡ s
  setup-is =
      ap (λ (n : ℕ). let t : SetUp = record { host_bytes = n; lanes = length core.lanes; geometry = s.geometry } in t) opening.host
      ∙ ap (λ (n : ℕ). let t : SetUp = record { host_bytes = s.host_bytes; lanes = n; geometry = s.geometry } in t) lanes-are

  hosted-so : refusal_of s ≡ None → ((number : ℕ) (guest : Guest) → slice_get s.geometry.guests number ≡ Some guest → IsSound guest.memory_map)
      → IsHosted (record { geometry = s.geometry; state = core })
  hosted-so none sound = record {
    accepted = ap refusal_of setup-is ∙ none;
    of = record {
      mediator = opening.mediator;
      blocks = opening.blocks;
      laid_out =
          subst (λ (n : ℕ). IsLaidOut n (length core.lanes) s.geometry) (sym opening.host)
          (subst (λ (n : ℕ). IsLaidOut s.host_bytes n s.geometry) (sym lanes-are) (host-laid-out s (script-accepted s none) sound));
      consistent = subst (IsConsistent s.geometry) (sym opening.world) (opening-consistent (λ _. 0) (λ _ _. 0) s.geometry s.lanes);
      phased = subst (ArePhased s.geometry) (sym opening.world) (opening-phased s (λ _. 0) (λ _ _. 0) (blank-clear s));
    };
    counted = subst (IsCounted s.geometry) (sym opening.world) (opening-counted (λ _. 0) (λ _ _. 0) s.geometry s.lanes);
    led = record { log = []; leads = log-none s (record { geometry = s.geometry; state = core }) (record { setup = setup-is; world = opening.world }) };
  }

-- as `open` makes them: the set-up as handed in, and what the layout is
module _ (a s : SetUp) (g : Geometry) (core : State) (same : s ≡ a) (is : g ≡ s.geometry) (opening : IsOpening g s.host_bytes s.lanes core) where
  hosted-is : ◌≡◌ {A = Hosted} (record { geometry = s.geometry; state = core }) (record { geometry = g; state = core })
  hosted-is = ap (λ (x : Geometry). let h : Hosted = record { geometry = x; state = core } in h) (sym is)

  opening-there : IsOpening s.geometry s.host_bytes s.lanes core
  opening-there = subst (λ (x : Geometry). IsOpening x s.host_bytes s.lanes core) is opening

  pub starts-at : IsAtStart a (record { geometry = g; state = core })
  starts-at =
      subst (λ (t : SetUp). IsAtStart t (record { geometry = g; state = core })) same
      (subst (IsAtStart s) hosted-is (record { setup = setup-is s core opening-there; world = opening-there.world }))

  pub starts-hosted : refusal_of a ≡ None
      → ((number : ℕ) (guest : Guest) → slice_get g.guests number ≡ Some guest → IsSound guest.memory_map)
      → IsHosted (record { geometry = g; state = core })
  starts-hosted none sound =
      subst IsHosted hosted-is
      (hosted-so s core opening-there (ap refusal_of same ∙ none)
      (subst (λ (x : Geometry). (number : ℕ) (guest : Guest) → slice_get x.guests number ≡ Some guest → IsSound guest.memory_map) is sound))

-- what holds of each member, and of one more behind them
pub holds-more : {X : Type 0} (P : X → Type 0) (xs : List X) (y : X) → ((i : ℕ) (x : X) → slice_get xs i ≡ Some x → P x) → P y
    → (i : ℕ) (x : X) → slice_get (xs ++ y ∷ []) i ≡ Some x → P x
holds-more P [] y all holds zero x at = let same : y ≡ x = cc in subst P same holds
holds-more P [] y all holds (suc i) x at = cc
holds-more P (z ∷ zs) y all holds zero x at = all zero x at
holds-more P (z ∷ zs) y all holds (suc i) x at = holds-more P zs y (λ j. all (suc j)) holds i x at

-- what comes next of a list is one of its members
member-behind : {X : Type 0} (before rest : List X) (y : X) → slice_get (before ++ y ∷ rest) (length before) ≡ Some y
member-behind [] rest y = refl
member-behind (x ∷ before) rest y = member-behind before rest y

pub there-behind : {X : Type 0} (all before left rest : List X) (y : X) → all ≡ before ++ left → left ≡ y ∷ rest
    → slice_get all (length before) ≡ Some y
there-behind all before left rest y is next =
    ap (λ (xs : List _). slice_get xs (length before)) (is ∙ ap (λ (ys : List _). before ++ ys) next) ∙ member-behind before rest y
