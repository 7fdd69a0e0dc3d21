-- What discipline says of the bytes that a taken command names: the front admin command's destination is apart from them, and so are the slots of the
-- completion queues.
use Rattle.std.proofs.Common.{◌≡◌, ℕ, zero, suc, ◌+◌, ◌*◌, ◌≤◌, ◌<◌, ◌⊎◌, inl, inr, Bool, true, false, not, ◌&&◌}
use Rattle.std.proofs.Common.{◌||◌, List, [], ◌∷◌, ◌++◌, flat_map, map}
use Rattle.std.proofs.Common.{slice_get, Option, Some, sym, ap, ◌∙◌, subst, leb-true, ltb-true}
use Rattle.std.specs.List.{enumerate_from, list_any}
use Rattle.std.proofs.lemmas.Bool.{cases_lt, not-true}
use Rattle.std.proofs.lemmas.List.Concat.{flat_map-append}
use Rattle.nv_model.proofs.Endings.{and-true}
use Rattle.nv_model.specs.Controller.{Controller, front, queue_of}
use Rattle.nv_model.specs.Footprint.{Entry, Named, admin_named, completion_slots, footprints, io_named, is_destination, meets, named_as, names, queue_named, slots_named, untaken_named}
use Rattle.nv_model.specs.Laws.{IsInOrder}
use Rattle.nv_model.specs.Memory.{bytes_from, image}
use Rattle.nv_model.specs.Queue.{CompletionQueue, SubmissionQueue, cqe_size, sqe_size}
use Rattle.nv_world_model.specs.Disciplined.{clash, is_clear, taken_entries}
use Rattle.nv_world_model.specs.Geometry.{Guest, regions_of, shape_of}
use Rattle.nv_world_model.specs.SetUp.{any_two}
use Rattle.nv_world_model.specs.World.{World}
use Rattle.nv_laws.proofs.others.ShownTags.{any-behind}
use Rattle.nv_laws.proofs.related.Beginning.{awaits}
use Rattle.nv_laws.proofs.related.Disciplines.{IsTakenEntry, any-map, any-more, commands_of, name-meets, never-both, not-so}
use Rattle.nv_laws.proofs.related.Fronts.{any-flat, front-clear}
use Rattle.nv_laws.proofs.related.Undisturbed.{entry_names, names_at}

-- the slots of a completion queue that is there are among those of all
slot-among : (f : ℕ × ℕ → Bool) (queues : List (Option CompletionQueue)) (y : ℕ) (q : CompletionQueue) → queue_of (slice_get queues y) ≡ Some q
    → f (q.base, cqe_size * q.size) ≡ true → list_any f (flat_map slots_named queues) ≡ true
slot-among f [] y q at e = cc
slot-among f (x ∷ queues) zero q at e =
    subst (λ o. list_any f (slots_named o ++ flat_map slots_named queues) ≡ true) (sym at) (ap (λ b. b || list_any f (flat_map slots_named queues)) e)
slot-among f (x ∷ queues) (suc y) q at e = any-behind f (slots_named x) (flat_map slots_named queues) (slot-among f queues y q at e)

module _ (number : ℕ) (guest : Guest) (w : World) where
  abbrev mine : ℕ → ℕ
  mine = image (regions_of guest) w.host

  abbrev taken : List (List Named)
  taken = map (io_named (shape_of guest) mine) (taken_entries number w)

  -- a taken command names an address
  pub record IsNamed (at : ℕ) : Type 0 where
    pub entry : List ℕ
    pub taken : IsTakenEntry number w entry
    pub named : entry_names guest w.host at entry ≡ true

  -- some run of a taken command has it
  run-among : (at : ℕ) (p : Named → Bool) → ((n : Named) → names n at ≡ true → p n ≡ true) → IsNamed at
      → list_any p (flat_map (λ named. named) taken) ≡ true
  run-among at p each is =
      any-flat p taken
      (any-map (λ spans. list_any p spans) (io_named (shape_of guest) mine) (taken_entries number w)
      (is.taken (λ entry. list_any p (io_named (shape_of guest) mine entry))
      (any-more (names_at at) p (io_named (shape_of guest) mine is.entry) each is.named)))

  module _ (c : Controller) (clear : is_clear (flat_map (λ named. named) (commands_of number guest w c)) (completion_slots c) ≡ true) where
    -- a destination of the front admin command's has no such address
    pub destination-apart : (addr : ℕ) → front c 0 ≡ Some addr
        → ((q : SubmissionQueue) → slice_get c.submission 0 ≡ Some (Some q) → IsInOrder q.size q.head q.tail)
        → (at : ℕ) → IsNamed at → list_any (awaits at) (admin_named (shape_of guest) (bytes_from mine addr sqe_size)) ≡ false
    destination-apart addr found order at is =
        not-so (list_any (awaits at) own)
        (λ bad.
        never-both (list_any (λ m. list_any (clash m) (flat_map (λ named. named) taken)) (untaken_named (shape_of guest) mine 0 addr))
        (any-behind (λ m. list_any (clash m) (flat_map (λ named. named) taken)) (named_as Entry addr sqe_size ∷ []) own
        (any-more (awaits at) (λ m. list_any (clash m) (flat_map (λ named. named) taken)) own
        (λ m awaited. meets-taken m (and-true (is_destination m) (names m at) awaited)) bad))
        (front-clear number guest w c 0 addr found order clear))
      where
        own : List Named
        own = admin_named (shape_of guest) (bytes_from mine addr sqe_size)

        clashes : (m n : Named) → is_destination m ≡ true → names m at ≡ true → names n at ≡ true → clash m n ≡ true
        clashes m n dest here there =
            let both = and-true _ _ here in
            ap (λ b. (b || is_destination n) && meets m.addr m.len n) dest
            ∙ name-meets number guest w m.addr m.len at n (leb-true m.addr at both.0) (ltb-true at (m.addr + m.len) both.1) there

        meets-taken : (m : Named) → (is_destination m ≡ true) × (names m at ≡ true) → list_any (clash m) (flat_map (λ named. named) taken) ≡ true
        meets-taken m both = run-among at (clash m) (λ n there. clashes m n both.0 both.1 there) is

    -- nor has a slot of a completion queue that is there
    pub slots-apart : (y : ℕ) (q : CompletionQueue) → queue_of (slice_get c.completion_queues y) ≡ Some q → (at : ℕ) → IsNamed at
        → (at < q.base) ⊎ (q.base + cqe_size * q.size ≤ at)
    unfolding footprints completion_slots
    slots-apart y q there at is =
        elim (cases_lt at q.base) [
          | inl low ↦ inl low
          | inr from ↦ elim (cases_lt at (q.base + cqe_size * q.size)) [
            | inr high ↦ inr high
            | inl within ↦
                never-both (list_any (λ s. list_any (meets s.0 s.1) all) (completion_slots c))
                (slot-among (λ s. list_any (meets s.0 s.1) all) c.completion_queues y q there
                (among (meets q.base (cqe_size * q.size))
                (run-among at (meets q.base (cqe_size * q.size)) (λ n named. name-meets number guest w q.base (cqe_size * q.size) at n from within named) is)))
                (not-true _ (and-true (not (any_two clash all)) _ clear).1)
          ]
        ]
      where
        all : List Named
        all = flat_map (λ named. named) (commands_of number guest w c)

        among : (p : Named → Bool) → list_any p (flat_map (λ named. named) taken) ≡ true → list_any p all ≡ true
        among p e =
            subst (λ ns. list_any p ns ≡ true) (sym (flat_map-append (λ named. named) untaken taken))
            (any-behind p (flat_map (λ named. named) untaken) (flat_map (λ named. named) taken) e)
          where
            untaken : List (List Named)
            untaken = flat_map (λ x. queue_named (shape_of guest) mine x.0 x.1) (enumerate_from 0 c.submission)
