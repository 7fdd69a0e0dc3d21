-- Bytes that are stored in a row, those of each item of a list behind those of the one before.
use Rattle.std.proofs.Common.{◌≡◌, ℕ, ◌+◌, ◌*◌, ◌<◌, ◌≤◌, List, ◌∷◌, ◌++◌, drop, flat_map, get_or, length, arith, refl, sym, ap, ◌∙◌, add-one, drop-cons}
use Rattle.std.proofs.lemmas.List.{drop_all}
use Rattle.nv_mem.specs.Bytes.{after_store}
use Rattle.nv_model.specs.Memory.{byte_in, stored}
use Rattle.nv_model.proofs.MemoryLemmas.{stored-append, stored-list, stored-nil}

-- what is stored in a list of bytes
pub byte_in-stored : (memory : List ℕ) (addr : ℕ) (bytes : List ℕ) → addr + length bytes ≤ length memory
    → byte_in (after_store memory addr bytes) ≡ stored (byte_in memory) addr bytes
unfolding byte_in
byte_in-stored memory addr bytes inside = sym (stored-list memory addr bytes inside)

-- what a loop over the items keeps
pub record IsAtItem {X : Type 0} (f : X → List ℕ) (size : ℕ) (before : List ℕ) (start : ℕ) (items : List X) (now : List ℕ) (at i : ℕ) : Type 0 where
  pub moved : stored (byte_in now) at (flat_map f (drop i items)) ≡ stored (byte_in before) start (flat_map f items)
  pub sized : length now ≡ length before
  pub place : at ≡ start + size * i

module _ {X : Type 0} (f : X → List ℕ) (size : ℕ) (before : List ℕ) (start : ℕ) (items : List X) where
  -- no item is stored
  pub item-first : IsAtItem f size before start items before start 0
  item-first = record { moved = refl; sized = refl; place = omega arith }

  -- one more item
  pub item-next : (now new : List ℕ) (at next i : ℕ) (d : X) → IsAtItem f size before start items now at i → i < length items
      → byte_in new ≡ stored (byte_in now) at (f (get_or items i d)) → length (f (get_or items i d)) ≡ size → length new ≡ length now → next ≡ at + size
      → IsAtItem f size before start items new next (i + 1)
  item-next now new at next i d so_far below is long sized further =
      let x : X = get_or items i d in
      let rest : List ℕ = flat_map f (drop (i + 1) items) in
      let here : next ≡ at + length (f x) = omega arith in
      let front : f x ++ rest ≡ flat_map f (drop i items) = ap (flat_map f) (sym (item-here i d below)) in
      record {
        moved =
            ap (λ (m : ℕ → ℕ). stored m next rest) is
            ∙ ap (λ (n : ℕ). stored (stored (byte_in now) at (f x)) n rest) here
            ∙ stored-append (byte_in now) at (f x) rest
            ∙ ap (stored (byte_in now) at) front
            ∙ so_far.moved;
        sized = sized ∙ so_far.sized;
        place = (let p = so_far.place in omega arith);
      }
    where
      item-here : (i : ℕ) (d : X) → i < length items → drop i items ≡ get_or items i d ∷ drop (i + 1) items
      item-here i d below = rw (add-one, drop-cons items i d) refl

  -- all items are stored
  pub item-end : (now : List ℕ) (at i : ℕ) → IsAtItem f size before start items now at i → length items ≤ i
      → byte_in now ≡ stored (byte_in before) start (flat_map f items)
  item-end now at i so_far past =
      sym (stored-nil (byte_in now) at) ∙ ap (λ (xs : List X). stored (byte_in now) at (flat_map f xs)) (sym (drop_all i items past)) ∙ so_far.moved
