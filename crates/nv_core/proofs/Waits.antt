-- A command that waits for its plan: the first of its tags is the one that it goes by, and all of them wait together.
use Rattle.std.proofs.Common.{◌≡◌, ℕ, zero, suc, ◌<◌, ◌≤◌, ◌==◌, Bool, true, false, cond, List, [], ◌∷◌, get_or, length, map, set, slice_get, Option, Some}
use Rattle.std.proofs.Common.{arith, refl, sym, ap, ◌∙◌, subst, eqb-true}
use Rattle.std.specs.List.{All}
use Rattle.std.proofs.lemmas.List.Elements.{All-head, All-weaker}
use Rattle.nv_core.proofs.GroupWorlds.{IsTakenHere, all-taken, group-lane, taken-found, taken-there}
use Rattle.nv_core.specs.Groups.{AreTaken}
use Rattle.nv_core.proofs.KeptStates.{IsKeptOf}
use Rattle.nv_core.specs.State.{State, world_of}
use Rattle.nv_core.specs.Submit.{WaitsForPlan}
use Rattle.nv_core.specs.Tags.{state_in}
use Rattle.nv_laws_sound.specs.Groups.{AreGroups, Part, Reading, goes_by, parts_of}
use Rattle.nv_laws_sound.proofs.Folds.{group-numbers, tag-part}
use Rattle.nv_laws_sound.proofs.Groupings.{goes-has, goes-of}
use Rattle.nv_laws_sound.proofs.Lists.{slice_get-below, some-same}
use Rattle.nv_laws_sound.proofs.Numbers.{Passes, numbers-are, numbers-map, numbers-pass, numbers_where}
use Rattle.nv_laws_sound.proofs.Stages.{group-count, reading}
use Rattle.nv_model.specs.Transcript.{ReadDone}
use Rattle.nv_ns.specs.Extents.{Namespace}
use Rattle.nv_tags.specs.declared.state.TagState.TheVariants as state
use Rattle.nv_world_model.proofs.Seats.{slice_get-set, slice_get-set-other}
use Rattle.nv_world_model.specs.Geometry.{Geometry, Guest}
use Rattle.nv_world_model.specs.Share.{tags_of_entry}
use Rattle.nv_world_model.specs.World.{Command, Lane, Tag, Taken, World, group, group_in, leader_of, tag_changed, tag_in}
use Rattle.nv_world_model.specs.World as world

-- ---- the first of a command's tags

-- the first of some numbers, which is no higher than one of them
record IsFirst (ns : List ℕ) (k : ℕ) : Type 0 where
  pub n : ℕ
  pub rest : List ℕ
  pub is : ns ≡ n ∷ rest
  pub low : n ≤ k

first-low : {X : Type 0} (test : X → Bool) (xs : List X) (k : ℕ) (x : X) → slice_get xs k ≡ Some x → test x ≡ true → IsFirst (numbers_where test xs) k
first-low test [] k x at passes = cc
first-low test (y ∷ ys) zero x at passes =
    let here : test y ≡ true = ap test (some-same y x at) ∙ passes in
    record {
      n = 0;
      rest = map suc (numbers_where test ys);
      is = ap (λ (b : Bool). cond b (0 ∷ map suc (numbers_where test ys)) (map suc (numbers_where test ys))) here;
      low = omega arith;
    }
first-low test (y ∷ ys) (suc k) x at passes =
    let later = first-low test ys k x at passes in
    let low = later.low in
    elim (test y) as (λ b. IsFirst (cond b (0 ∷ map suc (numbers_where test ys)) (map suc (numbers_where test ys))) (suc k)) [
      | true ↦ record { n = 0; rest = map suc (numbers_where test ys); is = refl; low = omega arith }
      | false ↦ record { n = suc later.n; rest = map suc later.rest; is = ap (map suc) later.is; low = omega (arith, low) }
    ]

pub group-first : (geometry : Geometry) (w : World) (lane tag : ℕ) (l : Lane) (command : Command) (reads : List ReadDone) → AreGroups geometry l.tags
    → slice_get w.lanes lane ≡ Some l → slice_get l.tags tag ≡ Some (Taken command reads) → command.leader ≡ tag
    → (others : List ℕ) × (group_in (Some l) tag ≡ tag ∷ others)
group-first geometry w lane tag l command reads groups found there led =
    let parts : List Part = parts_of l.tags in
    let f = first-low (goes_by tag) parts tag (Reading command) (tag-part l.tags tag (Taken command reads) there) (goes-of tag (Reading command) command refl led) in
    let passes : Passes (goes_by tag) parts f.n =
    All-head (Passes (goes_by tag) parts) f.n f.rest (subst (All (Passes (goes_by tag) parts)) f.is (numbers-pass (goes_by tag) parts)) in
    let goes = goes-has tag passes.x passes.passes in
    let leads = goes.leads in
    let low = (groups f.n passes.x goes.command passes.is goes.has).low in
    let high = f.low in
    let same : f.n ≡ tag = omega (arith, low, high, leads) in
    (f.rest, sym (group-lane w lane tag l found) ∙ group-numbers w lane tag l found ∙ f.is ∙ ap (λ (n : ℕ). n ∷ f.rest) same)

-- ---- a command of a consistent world

module _ (geometry : Geometry) (s : State) (is : IsKeptOf geometry s) (lane tag i : ℕ) (l : Lane) (t : IsTakenHere s.lanes lane tag) (at : i ≡ lane)
    (has : l ≡ get_or s.lanes i l) (guest : Guest) (given : slice_get geometry.guests t.command.guest ≡ Some guest) where
  abbrev w : World
  w = world_of s

  found : slice_get s.lanes lane ≡ Some l
  found = taken-found s.lanes lane tag t i l at has

  there : slice_get l.tags tag ≡ Some (Taken t.command t.reads)
  there = taken-there s.lanes lane tag t i l at has

  groups : AreGroups geometry l.tags
  groups = (is.kept.lanes lane l found).groups

  of-world : tag_in (slice_get s.lanes lane) tag ≡ Some (Taken t.command t.reads)
  of-world = ap (λ (o : Option Lane). tag_in o tag) found ∙ there

  some-tags : 0 < tags_of_entry guest.namespace t.command.entry
  some-tags =
      let count = group-count geometry w lane tag l t.command t.reads found groups of-world t.led in
      let read = reading geometry w lane tag l t.command t.reads found groups of-world t.led in
      let first = group-first geometry w lane tag l t.command t.reads groups found there t.led in
      let some : length (group w lane tag) ≡ length (tag ∷ first.0) = ap length (group-lane w lane tag l found ∙ first.1) in
      let same : tags_of_entry read.guest.namespace t.command.entry ≡ tags_of_entry guest.namespace t.command.entry =
      ap (λ (g : Guest). tags_of_entry g.namespace t.command.entry) (some-same read.guest guest (sym read.given ∙ given)) in
      omega (arith, count, some, same)

  pub waits : WaitsForPlan guest.namespace tag l
  waits =
      let first = group-first geometry w lane tag l t.command t.reads groups found there t.led in
      let fine = is.kept.lanes lane l found in
      let many = fine.tags_are in
      let among = slice_get-below l.tags tag (Taken t.command t.reads) there in
      record {
        below = omega (arith, many, among);
        led = record { command = t.command; reads = t.reads; is = there; led = t.led };
        together = all-taken geometry s.lanes lane tag i l fine t at has;
        others = first.0;
        first = first.1;
        some = some-tags;
      }

-- ---- a tag that changes and keeps its leader

leaders-kept : (tags : List Tag) (n : ℕ) (t now : Tag) → slice_get tags n ≡ Some t → leader_of now ≡ leader_of t
    → map leader_of (set tags n now) ≡ map leader_of tags
leaders-kept [] n t now at same = cc
leaders-kept (x ∷ tags) zero t now at same =
    ap (λ (o : Option ℕ). o ∷ map leader_of tags) (same ∙ ap leader_of (sym (some-same x t at)))
leaders-kept (x ∷ tags) (suc n) t now at same = ap (λ (os : List (Option ℕ)). leader_of x ∷ os) (leaders-kept tags n t now at same)

pub group-kept : (l : Lane) (n : ℕ) (t now : Tag) (leader : ℕ) → slice_get l.tags n ≡ Some t → leader_of now ≡ leader_of t
    → group_in (Some (tag_changed n now l)) leader ≡ group_in (Some l) leader
group-kept l n t now leader at same =
    let goes : Option ℕ → Bool = world.is_that leader in
    numbers-are (λ (x : Tag). goes (leader_of x)) (set l.tags n now) ∙ numbers-map goes leader_of (set l.tags n now)
    ∙ ap (numbers_where goes) (leaders-kept l.tags n t now at same)
    ∙ sym (numbers-are (λ (x : Tag). goes (leader_of x)) l.tags ∙ numbers-map goes leader_of l.tags)

-- ---- with its transcript moved out

module _ (ns : Namespace) (l moved : Lane) (tag : ℕ) (waits : WaitsForPlan ns tag l)
    (is : moved ≡ tag_changed tag (Taken waits.led.command []) l) where
  abbrev was : Tag
  was = Taken waits.led.command waits.led.reads

  abbrev now : Tag
  now = Taken waits.led.command []

  pub moved-there : slice_get moved.tags tag ≡ Some now
  moved-there = ap (λ (k : Lane). slice_get k.tags tag) is ∙ slice_get-set l.tags tag was now waits.led.is

  pub moved-group : group_in (Some moved) tag ≡ group_in (Some l) tag
  moved-group = ap (λ (k : Lane). group_in (Some k) tag) is ∙ group-kept l tag was now tag waits.led.is refl

  still-taken : (n : ℕ) → state_in (slice_get l.tags n) ≡ Some state.Taken → state_in (slice_get moved.tags n) ≡ Some state.Taken
  still-taken n taken =
      (elim (n == tag) as (λ b. n == tag ≡ b → state_in (slice_get moved.tags n) ≡ Some state.Taken) [
        | true ↦ λ same. ap (λ (k : ℕ). state_in (slice_get moved.tags k)) (eqb-true n tag same) ∙ ap state_in moved-there
        | false ↦ λ other.
            ap (λ (k : Lane). state_in (slice_get k.tags n)) is ∙ ap state_in (slice_get-set-other l.tags tag n now other) ∙ taken
      ]) refl

  pub moved-waits : WaitsForPlan ns tag moved
  moved-waits =
      record {
        below = waits.below;
        led = record { command = waits.led.command; reads = []; is = moved-there; led = waits.led.led };
        together =
            subst (λ (tags : List ℕ). AreTaken tags moved) (sym moved-group)
            (All-weaker (λ n. state_in (slice_get l.tags n) ≡ Some state.Taken) (λ n. state_in (slice_get moved.tags n) ≡ Some state.Taken) still-taken
            (group_in (Some l) tag) waits.together);
        others = waits.others;
        first = moved-group ∙ waits.first;
        some = waits.some;
      }
