-- What discipline says of two commands of a guest's: what one names is no destination of another.
use Rattle.std.proofs.Common.{◌≡◌, ℕ, ◌+◌, ◌<◌, ◌≤◌, inl, inr, Bool, true, false, not, ◌&&◌, ◌||◌, nat_le, nat_lt, List}
use Rattle.std.proofs.Common.{flat_map, map, slice_get, Some, None, refl, sym, ap, ◌∙◌, leb-true, ltb-true}
use Rattle.std.specs.List.{enumerate_from, list_any}
use Rattle.std.proofs.lemmas.Bool.{cases_eq}
use Rattle.nv_model.proofs.Endings.{and-true}
use Rattle.nv_model.specs.Controller.{Controller}
use Rattle.nv_model.specs.Footprint.{Named, completion_slots, footprints, io_named, is_destination, meets, names, queue_named}
use Rattle.nv_model.specs.Memory.{image}
use Rattle.nv_world_model.specs.Disciplined.{clash, in_order, own_entry, taken_entries}
use Rattle.nv_world_model.specs.Geometry.{Geometry, Guest, regions_of, shape_of}
use Rattle.nv_world_model.specs.SetUp.{any_two}
use Rattle.nv_world_model.specs.World.{Command, Lane, Tag, World, tag_of}
use Rattle.nv_laws_sound.specs.Consistent.{IsConsistent}
use Rattle.nv_laws_sound.proofs.Lists.{some-same}
use Rattle.nv_laws_sound.specs.Groups.{command_of, part_of}
use Rattle.nv_laws_sound.proofs.CountedActs.{HasLane, lane-of}
use Rattle.nv_laws_sound.proofs.Folds.{part-tag, tag-part}
use Rattle.nv_laws.proofs.related.Beginning.{awaits, entry_awaits}
use Rattle.nv_laws.proofs.related.Disciplines.{commands_of, name-meets, never-both, order-is}
use Rattle.nv_laws.proofs.related.Named.{any-of, any-same, any_entry, numbered-at, own-any}
use Rattle.nv_laws.proofs.related.Undisturbed.{entry_names, names_at}
use Rattle.nv_laws.proofs.related.Pairs.{Pairs, pairs-at, pairs-behind, pairs-flat, pairs-map, pairs-meet, pairs-within}

-- ---- entries of two tags

-- a tag that its command goes by has the command's entry
led-entry : (number tag : ℕ) (p : List ℕ → Bool) (t : Tag) (command : Command) → command_of (part_of t) ≡ Some command → command.leader ≡ tag
    → list_any p (any_entry number t) ≡ true → list_any p (own_entry number tag t) ≡ true
led-entry number tag p t command has leads e = ap (list_any p) (own-any number tag t command has leads) ∙ e

-- the tag that a tag's command goes by, in its lane
record Leads (w : World) (number lane leader : ℕ) (p : List ℕ → Bool) : Type 0 where
  pub l : Lane
  pub u : Tag
  pub at : slice_get w.lanes lane ≡ Some l
  pub there : slice_get l.tags leader ≡ Some u
  pub passes : list_any p (own_entry number leader u) ≡ true

module _ (geometry : Geometry) (number : ℕ) (w : World) (fine : IsConsistent geometry w) where
  leads : (p : List ℕ → Bool) (lane tag : ℕ) (t : Tag) (command : Command) → tag_of w lane tag ≡ Some t → command_of (part_of t) ≡ Some command
      → list_any p (any_entry number t) ≡ true → Leads w number lane command.leader p
  leads p lane tag t command there has e =
      let l : HasLane w lane tag t = lane-of w lane tag t there in
      let m = fine.groups lane l.l l.at tag (part_of t) command (tag-part l.l.tags tag t l.found) has in
      let u = part-tag l.l.tags command.leader m.first m.there in
      let same : command_of (part_of u.t) ≡ Some command = ap command_of u.part_is ∙ m.same in
      record {
        l = l.l;
        u = u.t;
        at = l.at;
        there = u.is;
        passes = led-entry number command.leader p u.t command same refl (ap (list_any p) (any-same number u.t t (same ∙ sym has)) ∙ e);
      }

  module _ (p q : List ℕ → Bool) where
    -- two tags that go by themselves
    leaders-pair : (a b c d : ℕ) (x : Leads w number a b p) (y : Leads w number c d q) → ((a ≡ c) → (b ≡ d) → ⊥) → Pairs p q (taken_entries number w)
    unfolding taken_entries
    leaders-pair a b c d x y apart =
        let entries : ℕ × Tag → List (List ℕ) = λ (t : ℕ × Tag). own_entry number t.0 t.1 in
        let of_lane : Lane → List (List ℕ) = λ (l : Lane). flat_map entries (enumerate_from 0 l.tags) in
        elim (cases_eq a c) [
          | inl same ↦
              let lanes : y.l ≡ x.l = some-same y.l x.l (sym y.at ∙ ap (slice_get w.lanes) (sym same) ∙ x.at) in
              pairs-within p q of_lane w.lanes a x.l x.at
              (pairs-flat p q entries (enumerate_from 0 x.l.tags)
              (pairs-at (λ z. list_any p (entries z)) (λ z. list_any q (entries z)) (enumerate_from 0 x.l.tags) b d (b, x.u) (d, y.u)
              (numbered-at x.l.tags b x.u x.there) (numbered-at x.l.tags d y.u (ap (λ (l : Lane). slice_get l.tags d) (sym lanes) ∙ y.there))
              (λ also. apart same also) x.passes y.passes))
          | inr away ↦
              pairs-flat p q of_lane w.lanes
              (pairs-at (λ l. list_any p (of_lane l)) (λ l. list_any q (of_lane l)) w.lanes a c x.l y.l x.at y.at away
              (any-of p entries (enumerate_from 0 x.l.tags) b (b, x.u) (numbered-at x.l.tags b x.u x.there) x.passes)
              (any-of q entries (enumerate_from 0 y.l.tags) d (d, y.u) (numbered-at y.l.tags d y.u y.there) y.passes))
        ]

    -- tags of two commands, of one lane or of two, that each have such an entry
    pub tags-pair : (a b c d : ℕ) (t u : Tag) (command other : Command) → tag_of w a b ≡ Some t → tag_of w c d ≡ Some u
        → command_of (part_of t) ≡ Some command → command_of (part_of u) ≡ Some other → ((a ≡ c) → (command.leader ≡ other.leader) → ⊥)
        → list_any p (any_entry number t) ≡ true → list_any q (any_entry number u) ≡ true → Pairs p q (taken_entries number w)
    tags-pair a b c d t u command other here there has have apart one two =
        leaders-pair a command.leader c other.leader (leads p a b t command here has one) (leads q c d u other there have two) apart

-- ---- a state in order

-- a run that names an address
name-runs : (at : ℕ) (n : Named) → names n at ≡ true → (n.addr ≤ at) × (at < n.addr + n.len)
name-runs at n e =
    let both = and-true (nat_le n.addr at) (nat_lt at (n.addr + n.len)) e in
    (leb-true n.addr at both.0, ltb-true at (n.addr + n.len) both.1)

module _ (number : ℕ) (guest : Guest) (w : World) (c : Controller) where
  -- no two of all that is named clash
  pub none-clash : slice_get w.controllers number ≡ Some c → in_order None number guest w ≡ true
      → any_two clash (flat_map (λ named. named) (commands_of number guest w c)) ≡ false
  none-clash there e =
      let clear = (order-is number guest w None c there e).0 in
      not-not (any_two clash (flat_map (λ named. named) (commands_of number guest w c)))
      (and-true (not (any_two clash (flat_map (λ named. named) (commands_of number guest w c))))
      (not (list_any (λ s. list_any (meets s.0 s.1) (flat_map (λ named. named) (commands_of number guest w c))) (completion_slots c))) clear).0
    where
      not-not : (b : Bool) → not b ≡ true → b ≡ false
      not-not true e = cc
      not-not false e = refl

  -- two that one address is named by, one of them a destination, clash
  pub awaited-clash : (at : ℕ) (n m : Named) → awaits at n ≡ true → names_at at m ≡ true → (clash n m ≡ true) × (clash m n ≡ true)
  awaited-clash at n m one other =
      let both = and-true (is_destination n) (names n at) one in
      let run = name-runs at n both.1 in
      let also = name-runs at m other in (
        ap (λ b. (b || is_destination m) && meets n.addr n.len m) both.0 ∙ name-meets number guest w n.addr n.len at m run.0 run.1 other,
        ap (λ b. (is_destination m || b) && meets m.addr m.len n) both.0 ∙ ap (λ b. b && meets m.addr m.len n) (or-true (is_destination m))
            ∙ name-meets number guest w m.addr m.len at n also.0 also.1 both.1,
      )
    where
      or-true : (b : Bool) → (b || true) ≡ true
      or-true true = refl
      or-true false = refl

  -- so no command names a byte of another's destination
  pub pair-never : (at : ℕ) → any_two clash (flat_map (λ named. named) (commands_of number guest w c)) ≡ false
      → Pairs (entry_awaits guest w.host at) (entry_names guest w.host at) (taken_entries number w) → ⊥
  unfolding footprints
  pair-never at clear pair =
      let each = io_named (shape_of guest) (image (regions_of guest) w.host) in
      never-both (any_two clash (flat_map (λ named. named) (commands_of number guest w c)))
      (pairs-meet (awaits at) (names_at at) clash (flat_map (λ named. named) (commands_of number guest w c)) (awaited-clash at)
      (pairs-flat (awaits at) (names_at at) (λ named. named) (commands_of number guest w c)
      (pairs-behind (list_any (awaits at)) (list_any (names_at at))
      (flat_map (λ x. queue_named (shape_of guest) (image (regions_of guest) w.host) x.0 x.1) (enumerate_from 0 c.submission))
      (map each (taken_entries number w))
      (pairs-map (list_any (awaits at)) (list_any (names_at at)) each (taken_entries number w) pair)))) clear
