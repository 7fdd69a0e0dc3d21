-- What discipline says of the destination of a Read that several tags carry out: it names no byte twice, and none of the command's lists.
use Rattle.std.proofs.Common.{◌≡◌, ℕ, Bool, true, false, cond, ◌||◌, List, [], ◌∷◌, ◌++◌, All, flat_map, map, Some, refl, sym, ap, ◌∙◌, eq-eqb}
use Rattle.std.specs.List.{list_any}
use Rattle.std.proofs.lemmas.List.Elements.{All-cons, All-nil}
use Rattle.nv_entry.specs.declared.opcode.IoOpcode.{IoOpcode}
use Rattle.nv_entry.specs.declared.opcode.IoOpcode.TheVariants.{Flush, Write, Read, Compare, WriteZeroes, DatasetManagement}
use Rattle.nv_mem.specs.Places.{At, Place, places_of}
use Rattle.nv_model.specs.Carried.{moved_on, units_moved}
use Rattle.nv_model.specs.Dialogue.{asked}
use Rattle.nv_model.specs.Footprint.{Destination, ListBytes, Named, Source, buffer_named, io_named, named_as, verdict_named}
use Rattle.nv_model.specs.Judge.{ClearBlock, Go, KeepAll, LeaveBlock, MoveBlock, Work, WorkUnit, is_read, judge}
use Rattle.nv_model.specs.Laws.{IsAnother}
use Rattle.nv_model.specs.Memory.{image}
use Rattle.nv_model.specs.Private.{Moved, block_moved, unit_moved, verdict_in}
use Rattle.nv_model.specs.Controller.{Controller}
use Rattle.nv_world_model.specs.Disciplined.{clash}
use Rattle.nv_world_model.specs.Geometry.{Guest, regions_of, shape_of}
use Rattle.nv_world_model.specs.SetUp.{any_two}
use Rattle.nv_world_model.specs.World.{Tag, World, tag_of}
use Rattle.nv_world_model.specs.Geometry.{Geometry}
use Rattle.nv_laws_sound.proofs.GroupsKept.{HasGroups}
use Rattle.nv_laws.specs.Places.{NameNoneTwice}
use Rattle.nv_laws.proofs.units.Once.{destination-once}
use Rattle.nv_laws.proofs.others.ShownTags.{any-behind, any-front}
use Rattle.nv_laws.specs.Related.{is_place_at}
use Rattle.nv_laws.proofs.related.Beginning.{awaits, entry_awaits, verdict-awaits}
use Rattle.nv_laws.proofs.related.Disciplines.{commands_of, never-both, not-so, own-taken, taken-outstanding}
use Rattle.nv_laws.proofs.related.Named.{any_entry}
use Rattle.nv_laws.proofs.related.Undisturbed.{names_at}
use Rattle.nv_laws.proofs.related.Apart.{awaited-clash}
use Rattle.nv_laws.proofs.related.Pairs.{or-later, pairs-meet, pairs-split, pairs-turned}

-- ---- two in lists that are joined

two-front : {X : Type 0} (r : X → X → Bool) (xs ys : List X) → any_two r xs ≡ true → any_two r (xs ++ ys) ≡ true
two-front r [] ys e = cc
two-front r (x ∷ xs) ys e =
    (elim (list_any (r x) xs) as (λ b. list_any (r x) xs ≡ b → (b || any_two r xs) ≡ true → (list_any (r x) (xs ++ ys) || any_two r (xs ++ ys)) ≡ true) [
      | true ↦ λ is any. ap (λ b. b || any_two r (xs ++ ys)) (any-front (r x) xs ys is)
      | false ↦ λ is any. or-later (list_any (r x) (xs ++ ys)) (any_two r (xs ++ ys)) (two-front r xs ys any)
    ]) refl e

two-behind : {X : Type 0} (r : X → X → Bool) (xs ys : List X) → any_two r ys ≡ true → any_two r (xs ++ ys) ≡ true
two-behind r [] ys e = e
two-behind r (x ∷ xs) ys e = or-later (list_any (r x) (xs ++ ys)) (any_two r (xs ++ ys)) (two-behind r xs ys e)

two-any : {X : Type 0} (r : X → X → Bool) (xss : List (List X)) → list_any (λ xs. any_two r xs) xss ≡ true → any_two r (flat_map (λ xs. xs) xss) ≡ true
two-any r [] e = cc
two-any r (xs ∷ xss) e =
    (elim (any_two r xs) as (λ b. any_two r xs ≡ b → (b || list_any (λ ys. any_two r ys) xss) ≡ true → any_two r (xs ++ flat_map (λ ys. ys) xss) ≡ true) [
      | true ↦ λ is any. two-front r xs (flat_map (λ ys. ys) xss) is
      | false ↦ λ is any. two-behind r xs (flat_map (λ ys. ys) xss) (two-any r xss any)
    ]) refl e

-- ---- places

-- what isn't among places is another than each
pub not-among : (addr : ℕ) (places : List Place) → list_any (is_place_at addr) places ≡ false → All (IsAnother (At addr)) places
not-among addr [] e = All-nil (IsAnother (At addr))
not-among addr (place ∷ places) e =
    All-cons (IsAnother (At addr)) place places (λ same. first place same (is_place_at addr place) refl e)
    (not-among addr places (rest (is_place_at addr place) e))
  where
    rest : (b : Bool) → (b || list_any (is_place_at addr) places) ≡ false → list_any (is_place_at addr) places ≡ false
    rest true e = cc
    rest false e = e

    here : (n : ℕ) → is_place_at n (At n) ≡ true
    here n = eq-eqb n n refl

    first : (x : Place) → x ≡ At addr → (b : Bool) → is_place_at addr x ≡ b → (b || list_any (is_place_at addr) places) ≡ false → ⊥
    first x same true is e = cc
    first x same false is e = let bad : true ≡ false = sym (here addr) ∙ sym (ap (is_place_at addr) same) ∙ is in cc

-- ---- Reads differ in nothing

block-never : (opcode : IoOpcode) (work : Work) (index lba : ℕ) (memory : ℕ → ℕ) (disk : ℕ → ℕ → ℕ) (kept : ℕ → Bool) → is_read opcode ≡ true
    → (block_moved opcode work index lba memory disk kept).differed ≡ false
block-never Read work index lba memory disk kept e = refl
block-never Write work index lba memory disk kept e = refl
block-never Compare work index lba memory disk kept e = cc
block-never WriteZeroes work index lba memory disk kept e = refl
block-never DatasetManagement work index lba memory disk kept e = refl
block-never Flush work index lba memory disk kept e = refl

unit-never : (unit : WorkUnit) (work : Work) (memory : ℕ → ℕ) (disk : ℕ → ℕ → ℕ) (kept : ℕ → Bool) → is_read work.opcode ≡ true
    → (unit_moved unit work memory disk kept).differed ≡ false
unit-never (MoveBlock index lba) work memory disk kept e = block-never work.opcode work index lba memory disk kept e
unit-never (ClearBlock lba mark) work memory disk kept e = refl
unit-never (LeaveBlock lba) work memory disk kept e = refl
unit-never (KeepAll blocks) work memory disk kept e = refl

or-none : (b : Bool) → (b || false) ≡ b
or-none true = refl
or-none false = refl

pub reads-never : (units : List WorkUnit) (work : Work) (m : Moved) → is_read work.opcode ≡ true → (units_moved units work m).differed ≡ m.differed
unfolding units_moved
reads-never [] work m e = refl
reads-never (unit ∷ units) work m e =
    reads-never units work (moved_on unit work m) e
    ∙ ap (λ b. m.differed || b) (unit-never unit work m.memory m.disk m.kept e) ∙ or-none m.differed

-- ---- its own names

module _ (geometry : Geometry) (number : ℕ) (guest : Guest) (w : World) (are : HasGroups geometry w.lanes) (c : Controller)
    (clear : any_two clash (flat_map (λ named. named) (commands_of number guest w c)) ≡ false)
    (lane tag : ℕ) (t : Tag) (entry : List ℕ) (there : tag_of w lane tag ≡ Some t) (own : any_entry number t ≡ entry ∷ []) (whole : Work)
    (goes : verdict_in (shape_of guest) (image (regions_of guest) w.host) entry ≡ Go whole) (reads : is_read whole.opcode ≡ true) where
  abbrev mine : ℕ → ℕ
  mine = image (regions_of guest) w.host

  abbrev lists : List Named
  lists = map (λ a. named_as ListBytes a.0 a.1) (asked mine (judge (shape_of guest).mapped (shape_of guest).limit (shape_of guest).blocks entry))

  entry-clear : any_two clash (io_named (shape_of guest) mine entry) ≡ false
  entry-clear =
      not-so (any_two clash (io_named (shape_of guest) mine entry))
      (λ e.
      never-both (any_two clash (flat_map (λ named. named) (commands_of number guest w c)))
      (two-any clash (commands_of number guest w c)
      (taken-outstanding number guest w c (λ named. any_two clash named)
      (own-taken geometry number w are lane tag t entry there own (λ x. any_two clash (io_named (shape_of guest) mine x)) e))) clear)

  -- no byte of it is named twice
  destination-clear : any_two clash (buffer_named Destination whole.pieces) ≡ false
  destination-clear =
      not-so (any_two clash (buffer_named Destination whole.pieces))
      (λ e.
      never-both (any_two clash (io_named (shape_of guest) mine entry))
      (two-behind clash lists (verdict_named (verdict_in (shape_of guest) mine entry))
      (ap (λ v. any_two clash (verdict_named v)) goes ∙ ap (λ b. any_two clash (buffer_named (cond b Destination Source) whole.pieces)) reads ∙ e)) entry-clear)

  pub named-once : NameNoneTwice (places_of whole.pieces)
  named-once = destination-once whole.pieces destination-clear

  buffer-awaits : (addr : ℕ) → list_any (is_place_at addr) (places_of whole.pieces) ≡ true
      → list_any (awaits addr) (verdict_named (verdict_in (shape_of guest) mine entry)) ≡ true
  buffer-awaits addr e = verdict-awaits addr (verdict_in (shape_of guest) mine entry) whole goes reads e

  pub place-awaits : (addr : ℕ) → list_any (is_place_at addr) (places_of whole.pieces) ≡ true → entry_awaits guest w.host addr entry ≡ true
  place-awaits addr e = any-behind (awaits addr) lists (verdict_named (verdict_in (shape_of guest) mine entry)) (buffer-awaits addr e)

  -- the command's lists name no byte of it
  pub lists-apart : (addr : ℕ) → list_any (names_at addr) lists ≡ true → list_any (is_place_at addr) (places_of whole.pieces) ≡ false
  lists-apart addr named =
      not-so (list_any (is_place_at addr) (places_of whole.pieces))
      (λ e.
      never-both (any_two clash (io_named (shape_of guest) mine entry))
      (pairs-meet (awaits addr) (names_at addr) clash (io_named (shape_of guest) mine entry) (awaited-clash number guest w c addr)
      (pairs-turned (names_at addr) (awaits addr) (io_named (shape_of guest) mine entry)
      (pairs-split (names_at addr) (awaits addr) lists (verdict_named (verdict_in (shape_of guest) mine entry)) named (buffer-awaits addr e)))) entry-clear)
