-- What discipline says of a guest's taken commands: the guest's next act leaves alone what they name.
use Rattle.std.proofs.Common.{◌≡◌, ℕ, ◌+◌, ◌<◌, ◌≤◌, ◌⊎◌, inl, inr, Bool, true, false, cond, not, ◌&&◌, ◌||◌, nat_le, nat_lt, List, [], ◌∷◌, flat_map, length}
use Rattle.std.proofs.Common.{map, slice_get, Option, Some, arith, refl, sym, ap, ◌∙◌, leb-true, ltb-true}
use Rattle.std.specs.List.{enumerate_from, list_any}
use Rattle.std.proofs.lemmas.Bool.{cases_lt, lt-ltb}
use Rattle.nv_model.proofs.Endings.{and-true}
use Rattle.nv_model.specs.Controller.{Controller}
use Rattle.nv_model.specs.Footprint.{Named, completion_slots, footprints, io_named, is_destination, loads_from_destination, meets, names, queue_named, stores_into}
use Rattle.nv_model.specs.Memory.{image}
use Rattle.nv_model.specs.declared.act.Act.{Act}
use Rattle.nv_model.specs.declared.act.Act.TheVariants as act
use Rattle.nv_world_model.specs.Agrees.{is_awaited}
use Rattle.nv_world_model.specs.Disciplined.{commands_named, in_order, in_order_by, is_clear, may_act, taken_entries}
use Rattle.nv_world_model.specs.Geometry.{Geometry, Guest, regions_of, shape_of}
use Rattle.nv_laws_sound.proofs.GroupsKept.{HasGroups}
use Rattle.nv_world_model.specs.View.{is_tag_of, own_tag}
use Rattle.nv_world_model.specs.World.{Ended, Flying, Free, Tag, Taken, World, tag_of}
use Rattle.nv_laws.proofs.others.ShownTags.{any-behind}
use Rattle.nv_laws.proofs.related.Beginning.{awaits}
use Rattle.nv_laws.proofs.related.Named.{any_entry, taken-among}
use Rattle.nv_laws.proofs.related.Undisturbed.{IsTagUntouched, IsUntouched, names_at}
use Rattle.nv_laws.proofs.related.Views.{own-there}

-- ---- lists

pub any-more : {X : Type 0} (p q : X → Bool) (xs : List X) → ((x : X) → p x ≡ true → q x ≡ true) → list_any p xs ≡ true → list_any q xs ≡ true
any-more p q [] each e = e
any-more p q (x ∷ xs) each e =
    (elim (p x) as (λ b. p x ≡ b → (b || list_any p xs) ≡ true → (q x || list_any q xs) ≡ true) [
      | true ↦ λ is any. ap (λ b. b || list_any q xs) (each x is)
      | false ↦ λ is any. any-behind q (x ∷ []) xs (any-more p q xs each any)
    ]) refl e

pub any-map : {X Y : Type 0} (q : Y → Bool) (f : X → Y) (xs : List X) → list_any (λ x. q (f x)) xs ≡ true → list_any q (map f xs) ≡ true
any-map q f [] e = e
any-map q f (x ∷ xs) e =
    (elim (q (f x)) as (λ b. (b || list_any (λ y. q (f y)) xs) ≡ true → (b || list_any q (map f xs)) ≡ true) [
      | true ↦ λ any. refl
      | false ↦ λ any. any-map q f xs any
    ]) e

-- what would be true is false
pub not-so : (b : Bool) → (b ≡ true → ⊥) → b ≡ false
not-so true never = absurd (never refl)
not-so false never = refl

pub never-both : (b : Bool) → b ≡ true → b ≡ false → {A : Type 0} → A
never-both b yes_it no_it = let bad : true ≡ false = sym yes_it ∙ no_it in cc

-- ---- taken commands

-- an entry is that of a command that is taken
abbrev pub IsTakenEntry : (number : ℕ) → World → (entry : List ℕ) → Type 0
IsTakenEntry number w entry = (q : List ℕ → Bool) → q entry ≡ true → list_any q (taken_entries number w) ≡ true

-- so is that of each tag of the guest's
pub own-taken : (geometry : Geometry) (number : ℕ) (w : World) → HasGroups geometry w.lanes → (lane tag : ℕ) (t : Tag) (entry : List ℕ)
    → tag_of w lane tag ≡ Some t → any_entry number t ≡ entry ∷ [] → IsTakenEntry number w entry
own-taken geometry number w are lane tag t entry there is q e =
    taken-among geometry w are number q lane tag t there (ap (list_any q) is ∙ ap (λ b. b || false) e)

-- what each leaves alone, each of the guest's tags does
pub tags-untouched : (geometry : Geometry) (number : ℕ) (guest : Guest) (w : World) → HasGroups geometry w.lanes → (other memory behind : ℕ → ℕ)
    → ((entry : List ℕ) → IsTakenEntry number w entry → IsUntouched guest entry w.host other memory behind)
    → (lane tag : ℕ) (t : Tag) → own_tag number (tag_of w lane tag) ≡ Some t → IsTagUntouched t guest w.host other memory behind
tags-untouched geometry number guest w are other memory behind each lane tag t own =
    let there = own-there number (tag_of w lane tag) t own in
    by_tag t there.0 there.1
  where
    by_tag : (t : Tag) → tag_of w lane tag ≡ Some t → is_tag_of number (Some t) ≡ true → IsTagUntouched t guest w.host other memory behind
    by_tag Free there mine = tt
    by_tag (Taken command reads) there mine =
        each command.entry (own-taken geometry number w are lane tag (Taken command reads) command.entry there (ap (λ b. cond b (command.entry ∷ []) []) mine))
    by_tag (Flying command share standing) there mine =
        each command.entry (own-taken geometry number w are lane tag (Flying command share standing) command.entry there (ap (λ b. cond b (command.entry ∷ []) []) mine))
    by_tag (Ended command st share) there mine =
        each command.entry (own-taken geometry number w are lane tag (Ended command st share) command.entry there (ap (λ b. cond b (command.entry ∷ []) []) mine))

module _ (number : ℕ) (guest : Guest) (w : World) where
  -- ---- discipline

  abbrev pub commands_of : Controller → List (List Named)
  commands_of c = commands_named number guest w c

  -- a state in order, with the guest's controller
  pub order-is : (a : Option Act) (c : Controller) → slice_get w.controllers number ≡ Some c → in_order a number guest w ≡ true
      → (is_clear (flat_map (λ named. named) (commands_of c)) (completion_slots c) ≡ true) × (may_act a (commands_of c) ≡ true)
  order-is a c there e =
      and-true (is_clear (flat_map (λ named. named) (commands_of c)) (completion_slots c)) (may_act a (commands_of c))
      (sym (ap (λ o. in_order_by o a number guest w) there) ∙ e)

  pub act-is : (a : Act) (c : Controller) → may_act (Some a) (commands_of c) ≡ true
      → (stores_into (commands_of c) a ≡ false) × (loads_from_destination (commands_of c) a ≡ false)
  act-is a c e =
      let both = and-true (not (stores_into (commands_of c) a)) (not (loads_from_destination (commands_of c) a)) e in
      (not-not (stores_into (commands_of c) a) both.0, not-not (loads_from_destination (commands_of c) a) both.1)
    where
      not-not : (b : Bool) → not b ≡ true → b ≡ false
      not-not true e = cc
      not-not false e = refl

  -- some taken command is among those that are outstanding
  pub taken-outstanding : (c : Controller) (q : List Named → Bool)
      → list_any (λ entry. q (io_named (shape_of guest) (image (regions_of guest) w.host) entry)) (taken_entries number w) ≡ true
      → list_any q (commands_of c) ≡ true
  unfolding footprints
  taken-outstanding c q e =
      any-behind q (flat_map (λ x. queue_named (shape_of guest) (image (regions_of guest) w.host) x.0 x.1) (enumerate_from 0 c.submission))
      (map (io_named (shape_of guest) (image (regions_of guest) w.host)) (taken_entries number w))
      (any-map q (io_named (shape_of guest) (image (regions_of guest) w.host)) (taken_entries number w) e)

  -- an address of a run that is named is one where it meets
  pub name-meets : (addr len at : ℕ) (n : Named) → addr ≤ at → at < addr + len → names n at ≡ true → meets addr len n ≡ true
  name-meets addr len at n low high e =
      let both = and-true (nat_le n.addr at) (nat_lt at (n.addr + n.len)) e in
      let from = leb-true n.addr at both.0 in
      let to = ltb-true at (n.addr + n.len) both.1 in
      rw (
        lt-ltb 0 len (omega (arith, low, high)),
        lt-ltb 0 n.len (omega (arith, from, to)),
        lt-ltb addr (n.addr + n.len) (omega (arith, low, to)),
        lt-ltb n.addr (addr + len) (omega (arith, from, high)),
      ) refl

  -- a byte that a taken command names isn't stored into
  pub store-apart : (c : Controller) (addr : ℕ) (bytes : List ℕ) (entry : List ℕ) (at : ℕ) → stores_into (commands_of c) (act.Store addr bytes) ≡ false
      → IsTakenEntry number w entry → list_any (names_at at) (io_named (shape_of guest) (image (regions_of guest) w.host) entry) ≡ true
      → (at < addr) ⊎ (addr + length bytes ≤ at)
  unfolding stores_into
  store-apart c addr bytes entry at free taken named =
      elim (cases_lt at addr) [
        | inl before ↦ inl before
        | inr from ↦ elim (cases_lt at (addr + length bytes)) [
          | inr behind ↦ inr behind
          | inl within ↦
              never-both (list_any (λ spans. list_any (meets addr (length bytes)) spans) (commands_of c))
              (taken-outstanding c (λ spans. list_any (meets addr (length bytes)) spans)
              (taken (λ x. list_any (meets addr (length bytes)) (io_named (shape_of guest) (image (regions_of guest) w.host) x))
              (any-more (names_at at) (meets addr (length bytes)) (io_named (shape_of guest) (image (regions_of guest) w.host) entry)
              (λ n is. name-meets addr (length bytes) at n from within is) named))) free
        ]
      ]

  -- a byte that is loaded isn't awaited
  pub load-free : (c : Controller) (addr len at : ℕ) → loads_from_destination (commands_of c) (act.Load addr len) ≡ false → addr ≤ at → at < addr + len
      → is_awaited number guest w at ≡ false
  unfolding loads_from_destination
  load-free c addr len at free from within =
      not-so (is_awaited number guest w at)
      (λ is.
      never-both (list_any (λ spans. list_any (λ n. is_destination n && meets addr len n) spans) (commands_of c))
      (taken-outstanding c (λ spans. list_any (λ n. is_destination n && meets addr len n) spans)
      (any-more (λ entry. list_any (awaits at) (io_named (shape_of guest) (image (regions_of guest) w.host) entry))
      (λ entry. list_any (λ n. is_destination n && meets addr len n) (io_named (shape_of guest) (image (regions_of guest) w.host) entry)) (taken_entries number w)
      (λ entry some.
      any-more (awaits at) (λ n. is_destination n && meets addr len n) (io_named (shape_of guest) (image (regions_of guest) w.host) entry)
      (λ n both. by_both n (and-true (is_destination n) (names n at) both)) some) is)) free)
    where
      by_both : (n : Named) → (is_destination n ≡ true) × (names n at ≡ true) → (is_destination n && meets addr len n) ≡ true
      by_both n both = ap (λ b. b && meets addr len n) both.0 ∙ name-meets addr len at n from within both.1
