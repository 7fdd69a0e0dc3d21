-- The guest's memory in the world and on its private controller agree at what a command names that none of whose own bytes are hidden.
use Rattle.std.proofs.Common.{◌≡◌, ℕ, zero, suc, subst, ◌+◌, inl, inr, Bool, true, false, cond, ◌||◌, ◌==◌, List, [], ◌∷◌, All, map, slice_get, Option, Some, None}
use Rattle.std.proofs.Common.{arith, refl, sym, ap, ◌∙◌, eqb-true}
use Rattle.std.specs.List.{list_any}
use Rattle.std.proofs.lemmas.Bool.{cases_eq}
use Rattle.std.proofs.lemmas.List.Elements.{All-cons, All-head, All-nil, All-tail}
use Rattle.nv_mem.specs.GuestMap.{mapped}
use Rattle.nv_mem.specs.Places.{At, Bucket, Place, places_of}
use Rattle.nv_model.specs.Dialogue.{Dialogue, asked}
use Rattle.nv_model.specs.Footprint.{Destination, ListBytes, Named, Source, named_as, verdict_named}
use Rattle.nv_model.specs.Judge.{Go, Verdict, Work, is_read, judge}
use Rattle.nv_model.specs.Laws.{AgreeAt, AgreeOn, IsMappedPlace}
use Rattle.nv_model.specs.Memory.{image}
use Rattle.nv_model.specs.Private.{Private, verdict_in}
use Rattle.nv_model.proofs.Agreeing.{in_memory-agree}
use Rattle.nv_model.proofs.Asking.{IsMappedFrom, asked-mapped, judge-asks}
use Rattle.nv_model.proofs.Judged.{IsMappedPlace-pieces, verdict-sound}
use Rattle.nv_world_model.specs.Area.{bounce_page}
use Rattle.nv_world_model.specs.Device.{Held}
use Rattle.nv_world_model.specs.Disciplined.{in_order}
use Rattle.nv_world_model.specs.Geometry.{Geometry, Guest, regions_of, shape_of}
use Rattle.nv_world_model.specs.View.{own_held, own_tag}
use Rattle.nv_world_model.specs.World.{Command, Tag, World, tag_of}
use Rattle.nv_laws_sound.specs.Groups.{command_of, part_of}
use Rattle.nv_laws_sound.proofs.Groupings.{goes-of}
use Rattle.nv_laws.proofs.others.ShownTags.{any-behind, any-front}
use Rattle.nv_laws.specs.Following.{IsReached}
use Rattle.nv_laws.specs.Related.{IsTagRelated, NoneHides, Related, hides, is_place_at}
use Rattle.nv_laws.proofs.related.Beginning.{entry_awaits, tag-awaits}
use Rattle.nv_laws.proofs.related.Disciplines.{not-so}
use Rattle.nv_laws.proofs.related.Named.{any-none, any_entry, place-passes, run-names}
use Rattle.nv_laws.proofs.related.Rests.{goes-part, led}
use Rattle.nv_laws.proofs.related.Within.{there-fit}
use Rattle.nv_laws.proofs.related.Undisturbed.{entry_names, names_at}
use Rattle.nv_laws.proofs.related.Views.{device_of, status_in}
use Rattle.nv_laws.proofs.related.Apart.{none-clash, pair-never, tags-pair}

abbrev lists_named : List (ℕ × ℕ) → List Named
lists_named spans = map (λ a. named_as ListBytes a.0 a.1) spans

-- memories agree on spans of mapped bytes of which all that are named and mapped are the same
spans-agree : (m n : ℕ → ℕ) (test : ℕ → Bool) (spans : List (ℕ × ℕ)) → All (λ (s : ℕ × ℕ). IsMappedFrom test s.0 s.1) spans
    → ((at : ℕ) → list_any (names_at at) (lists_named spans) ≡ true → test at ≡ true → m at ≡ n at) → AgreeOn m n spans
spans-agree m n test [] there same = All-nil (AgreeAt m n)
spans-agree m n test (s ∷ spans) there same =
    All-cons (AgreeAt m n) s spans
    (λ i below.
    same (s.0 + i)
    (any-front (names_at (s.0 + i)) (named_as ListBytes s.0 s.1 ∷ []) (lists_named spans)
    (ap (λ b. b || false) (run-names (s.0 + i) ListBytes s.0 s.1 (omega arith) (omega (arith, below)))))
    (All-head (λ (s : ℕ × ℕ). IsMappedFrom test s.0 s.1) s spans there i below))
    (spans-agree m n test spans (All-tail (λ (s : ℕ × ℕ). IsMappedFrom test s.0 s.1) s spans there)
    (λ at is. same at (any-behind (names_at at) (named_as ListBytes s.0 s.1 ∷ []) (lists_named spans) is)))

-- a member of a list has what all have
pub all-at : {X : Type 0} (P : X → Type 0) (xs : List X) (i : ℕ) (x : X) → slice_get xs i ≡ Some x → All P xs → P x
all-at P [] i x at each = cc
all-at P (y ∷ ys) zero x at each = let same : y ≡ x = cc in subst P same (All-head P y ys each)
all-at P (y ∷ ys) (suc i) x at each = all-at P ys i x at (All-tail P y ys each)

-- a place of a list of mapped places is mapped
place-mapped : (test : ℕ → Bool) (addr : ℕ) (places : List Place) → All (IsMappedPlace test) places → list_any (is_place_at addr) places ≡ true → test addr ≡ true
place-mapped test addr [] each any = cc
place-mapped test addr (At other ∷ places) each any =
    (elim (other == addr) as (λ b. (other == addr) ≡ b → (b || list_any (is_place_at addr) places) ≡ true → test addr ≡ true) [
      | true ↦ λ same rest. subst (λ n. test n ≡ true) (eqb-true other addr same) (All-head (IsMappedPlace test) (At other) places each)
      | false ↦ λ other_one rest. place-mapped test addr places (All-tail (IsMappedPlace test) (At other) places each) rest
    ]) refl any
place-mapped test addr (Bucket ∷ places) each any = place-mapped test addr places (All-tail (IsMappedPlace test) Bucket places each) any

module _ (host_bytes : ℕ) (geometry : Geometry) (number : ℕ) (guest : Guest) (w : World) (reached : IsReached host_bytes geometry w) (p : Private)
    (related : Related geometry number guest w p) (ordered : in_order None number guest w ≡ true) (lane tag : ℕ) (t : Tag) (command : Command) (entry : List ℕ)
    (there : tag_of w lane tag ≡ Some t) (has : command_of (part_of t) ≡ Some command) (own : any_entry number t ≡ entry ∷ []) where
  abbrev pub hides_at : (a b addr : ℕ) → Bool
  hides_at a b addr = hides (own_tag number (tag_of w a b)) (own_held number (tag_of w a b) (device_of w a b)) addr

  -- a tag of another command hides nothing that this one names
  other-hides : (a b at : ℕ) (o : Option Tag) (held : Option Held) → tag_of w a b ≡ o → ((a ≡ lane) → led command.leader o ≡ true → ⊥)
      → entry_names guest w.host at entry ≡ true → IsTagRelated (own_tag number o) guest held (status_in geometry w a) (bounce_page geometry.mediator a b) w.host p.memory
      → hides (own_tag number o) held at ≡ true → ⊥
  other-hides a b at None held here away named is e = cc
  other-hides a b at (Some u) held here away named is e = by (command_of (part_of u)) refl
    where
      awaited : list_any (entry_awaits guest w.host at) (any_entry number u) ≡ true
      awaited =
          tag-awaits number guest held (status_in geometry w a) (bounce_page geometry.mediator a b) w.host p.memory at u
          (there-fit geometry w a b u reached.consistent.of_tags here) e is

      by : (o : Option Command) → command_of (part_of u) ≡ o → ⊥
      by None none = (let bad : false ≡ true = sym (ap (list_any (entry_awaits guest w.host at)) (any-none number u none)) ∙ awaited in cc)
      by (Some other) found =
          pair-never number guest w p.controller at (none-clash number guest w p.controller related.controller ordered)
          (tags-pair geometry number w reached.consistent (entry_awaits guest w.host at) (entry_names guest w.host at) a b lane tag u t other command here there found has
          (λ same also. away same (goes-part command.leader u ∙ goes-of command.leader (part_of u) other found also))
          awaited (ap (list_any (entry_names guest w.host at)) own ∙ ap (λ b. b || false) named))

  pub others-hide-none : (a b at : ℕ) → ((a ≡ lane) → led command.leader (tag_of w a b) ≡ true → ⊥) → entry_names guest w.host at entry ≡ true → hides_at a b at ≡ false
  others-hide-none a b at away named =
      not-so (hides_at a b at)
      (other-hides a b at (tag_of w a b) (own_held number (tag_of w a b) (device_of w a b)) refl away named (related.tags a b))

  module _ (bare : (b at : ℕ) → led command.leader (tag_of w lane b) ≡ true → hides_at lane b at ≡ false) where
    -- nothing that it names is hidden, where no tag of its own hides anything
    none-hides : (at : ℕ) → entry_names guest w.host at entry ≡ true → NoneHides number w at
    none-hides at named a b =
        elim (cases_eq a lane) [
          | inr away ↦ others-hide-none a b at (λ same also. away same) named
          | inl same ↦ (elim (led command.leader (tag_of w lane b)) as (λ c. led command.leader (tag_of w lane b) ≡ c → hides_at a b at ≡ false) [
            | true ↦ λ goes. ap (λ x. hides_at x b at) same ∙ bare b at goes
            | false ↦ λ other. others-hide-none a b at
                (λ here goes. (let bad : true ≡ false = sym goes ∙ ap (λ x. led command.leader (tag_of w x b)) here ∙ other in cc)) named
          ]) refl
        ]

    abbrev mine : ℕ → ℕ
    mine = image (regions_of guest) w.host

    abbrev judging : Dialogue Verdict
    judging = judge (shape_of guest).mapped (shape_of guest).limit (shape_of guest).blocks entry

    pub lists-agree : AgreeOn mine p.memory (asked mine judging)
    lists-agree =
        spans-agree mine p.memory (mapped (regions_of guest)) (asked mine judging)
        (asked-mapped (mapped (regions_of guest)) mine judging (judge-asks (shape_of guest).mapped (shape_of guest).limit (shape_of guest).blocks entry))
        (λ at is inside.
        sym (related.memory at inside
        (none-hides at (any-front (names_at at) (lists_named (asked mine judging)) (verdict_named (verdict_in (shape_of guest) mine entry)) is))))

    -- so its verdict is the same in both
    pub verdict-same : verdict_in (shape_of guest) p.memory entry ≡ verdict_in (shape_of guest) mine entry
    verdict-same = in_memory-agree mine p.memory judging lists-agree

    -- and a byte of its buffer is
    pub place-same : (work : Work) (addr : ℕ) → verdict_in (shape_of guest) mine entry ≡ Go work
        → list_any (is_place_at addr) (places_of work.pieces) ≡ true → mine addr ≡ p.memory addr
    place-same work addr goes among =
        let sound = verdict-sound (shape_of guest).mapped (shape_of guest).limit (shape_of guest).blocks entry mine work goes in
        let inside : mapped (regions_of guest) addr ≡ true =
        place-mapped (mapped (regions_of guest)) addr (places_of work.pieces) (IsMappedPlace-pieces (mapped (regions_of guest)) work.pieces sound.mapped_each) among in
        sym (related.memory addr inside
        (none-hides addr
        (any-behind (names_at addr) (lists_named (asked mine judging)) (verdict_named (verdict_in (shape_of guest) mine entry))
        (ap (λ v. list_any (names_at addr) (verdict_named v)) goes
        ∙ place-passes addr (cond (is_read work.opcode) Destination Source) (names_at addr) (run-names addr (cond (is_read work.opcode) Destination Source))
        work.pieces among))))
