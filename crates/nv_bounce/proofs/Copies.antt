-- The loops of a copy, over the pieces of a list and over the rows of a run: what is left, copied from here, is the whole copied from
-- the start. `copied` says what a copy makes of a memory: `gathered_to` and `scattered_from`, of some regions.
use Rattle.std.proofs.Common.{◌≡◌, ℕ, ◌+◌, ◌-◌, ◌<◌, ◌≤◌, List, [], ◌++◌, length, drop, get_or, arith, refl, sym, ap, ◌∙◌}
use Rattle.nv_mem.specs.Places.{Place, addresses, piece_len, places_of, places_of_piece, total_len}
use Rattle.nv_mem.specs.declared.piece.Piece.{Piece}
use Rattle.nv_mem.proofs.PlaceLists.{addresses-append, length-addresses, length-places_of, length-places_of_piece, pieces_from, pieces_from-past, total_len-from}
use Rattle.nv_model.specs.Memory.{byte_in}

-- a copy between places and the `len` bytes from `slot` on goes place by place
pub record GoesInOrder (copied : List Place → ℕ → (ℕ → ℕ) → ℕ → ℕ) (slot len : ℕ) : Type 0 where
  pub none : (m : ℕ → ℕ) (at : ℕ) → copied [] at m ≡ m
  pub append : (m : ℕ → ℕ) (front behind : List Place) (at : ℕ) → slot ≤ at → at + (length front + length behind) ≤ slot + len
      → copied behind (at + length front) (copied front at m) ≡ copied (front ++ behind) at m

-- ---- the rows of a run

-- what a loop over the rows of a run keeps
pub record IsAtRow (copied : List Place → ℕ → (ℕ → ℕ) → ℕ → ℕ) (before : List ℕ) (slot addr len : ℕ) (now : List ℕ) (done : ℕ) : Type 0 where
  pub moved : copied (addresses (addr + done) (len - done)) (slot + done) (byte_in now) ≡ copied (addresses addr len) slot (byte_in before)
  pub size : length now ≡ length before
  pub within : done ≤ len

-- no byte is copied
pub IsAtRow-first : (copied : List Place → ℕ → (ℕ → ℕ) → ℕ → ℕ) (before : List ℕ) (slot addr len : ℕ) → IsAtRow copied before slot addr len before 0
IsAtRow-first copied before slot addr len =
    let a : addr + 0 ≡ addr = omega arith in
    let s : slot + 0 ≡ slot = omega arith in
    let n : len - 0 ≡ len = omega arith in
    record { moved = rw (a, s, n) refl; size = refl; within = omega arith }

-- one more row
pub IsAtRow-next : (copied : List Place → ℕ → (ℕ → ℕ) → ℕ → ℕ) (before : List ℕ) (slot addr len : ℕ) (now new : List ℕ) (done n : ℕ)
    → GoesInOrder copied slot len → IsAtRow copied before slot addr len now done → n ≤ len - done
    → byte_in new ≡ copied (addresses (addr + done) n) (slot + done) (byte_in now) → length new ≡ length now
    → IsAtRow copied before slot addr len new (done + n)
IsAtRow-next copied before slot addr len now new done n order so_far most moved size =
    let front : List Place = addresses (addr + done) n in
    let behind : List Place = addresses (addr + (done + n)) (len - (done + n)) in
    let within : done ≤ len = so_far.within in
    let first : length front ≡ n = length-addresses (addr + done) n in
    let second : length behind ≡ len - (done + n) = length-addresses (addr + (done + n)) (len - (done + n)) in
    let at : slot + (done + n) ≡ slot + done + length front = omega arith in
    let next : addr + (done + n) ≡ addr + done + n = omega arith in
    let whole : n + (len - (done + n)) ≡ len - done = omega arith in
    let joined : front ++ behind ≡ addresses (addr + done) (len - done) =
    ap (λ (a : ℕ). front ++ addresses a (len - (done + n))) next
    ∙ sym (addresses-append (addr + done) n (len - (done + n)))
    ∙ ap (addresses (addr + done)) whole in
    record {
      moved =
          ap (copied behind (slot + (done + n))) moved
          ∙ ap (λ (a : ℕ). copied behind a (copied front (slot + done) (byte_in now))) at
          ∙ order.append (byte_in now) front behind (slot + done) (omega arith) (omega arith)
          ∙ ap (λ (places : List Place). copied places (slot + done) (byte_in now)) joined
          ∙ so_far.moved;
      size = size ∙ so_far.size;
      within = omega arith;
    }

-- no places are left
addresses-none : (addr : ℕ) → addresses addr 0 ≡ []
unfolding addresses
addresses-none addr = refl

-- the whole run is copied
pub IsAtRow-end : (copied : List Place → ℕ → (ℕ → ℕ) → ℕ → ℕ) (before : List ℕ) (slot addr len : ℕ) (now : List ℕ) (done : ℕ)
    → GoesInOrder copied slot len → IsAtRow copied before slot addr len now done → len ≤ done
    → byte_in now ≡ copied (addresses addr len) slot (byte_in before)
IsAtRow-end copied before slot addr len now done order so_far all =
    let none : len - done ≡ 0 = omega arith in
    sym (order.none (byte_in now) (slot + done))
    ∙ ap (λ (places : List Place). copied places (slot + done) (byte_in now))
    (sym (addresses-none (addr + done)) ∙ ap (addresses (addr + done)) (sym none))
    ∙ so_far.moved

-- ---- the pieces of a list

-- what a loop over the pieces keeps: `left` are those that are left
pub record IsAtPiece (copied : List Place → ℕ → (ℕ → ℕ) → ℕ → ℕ) (before : List ℕ) (slot : ℕ)
    (pieces : List Piece) (now : List ℕ) (at : ℕ) (left : List Piece) : Type 0 where
  pub moved : copied (places_of left) at (byte_in now) ≡ copied (places_of pieces) slot (byte_in before)
  pub size : length now ≡ length before
  pub start : slot ≤ at
  pub end : at + total_len left ≡ slot + total_len pieces

-- one more piece
pub IsAtPiece-next : (copied : List Place → ℕ → (ℕ → ℕ) → ℕ → ℕ) (before : List ℕ) (slot : ℕ) (pieces : List Piece) (now new : List ℕ) (at i : ℕ) (d : Piece)
    → GoesInOrder copied slot (total_len pieces) → IsAtPiece copied before slot pieces now at (drop i pieces) → i < length pieces
    → byte_in new ≡ copied (places_of_piece (get_or pieces i d)) at (byte_in now) → length new ≡ length now
    → IsAtPiece copied before slot pieces new (at + piece_len (get_or pieces i d)) (drop (i + 1) pieces)
IsAtPiece-next copied before slot pieces now new at i d order so_far below moved size =
    let p : Piece = get_or pieces i d in
    let front : List Place = places_of_piece p in
    let rest : List Piece = drop (i + 1) pieces in
    let start : slot ≤ at = so_far.start in
    let end : at + total_len (drop i pieces) ≡ slot + total_len pieces = so_far.end in
    let sum : total_len (drop i pieces) ≡ piece_len p + total_len rest = total_len-from pieces i d below in
    let first : length front ≡ piece_len p = length-places_of_piece p in
    let second : length (places_of rest) ≡ total_len rest = length-places_of rest in
    record {
      moved =
          ap (copied (places_of rest) (at + piece_len p)) moved
          ∙ ap (λ (n : ℕ). copied (places_of rest) (at + n) (copied front at (byte_in now))) (sym first)
          ∙ order.append (byte_in now) front (places_of rest) at start (omega arith)
          ∙ ap (λ (ps : List Piece). copied (places_of ps) at (byte_in now)) (sym (pieces_from pieces i d below))
          ∙ so_far.moved;
      size = size ∙ so_far.size;
      start = omega arith;
      end = omega arith;
    }

-- all pieces are copied
pub IsAtPiece-end : (copied : List Place → ℕ → (ℕ → ℕ) → ℕ → ℕ) (before : List ℕ) (slot : ℕ) (pieces : List Piece) (now : List ℕ) (at i : ℕ)
    → GoesInOrder copied slot (total_len pieces) → IsAtPiece copied before slot pieces now at (drop i pieces) → length pieces ≤ i
    → byte_in now ≡ copied (places_of pieces) slot (byte_in before)
IsAtPiece-end copied before slot pieces now at i order so_far past =
    sym (order.none (byte_in now) at)
    ∙ ap (λ (ps : List Piece). copied (places_of ps) at (byte_in now)) (sym (pieces_from-past pieces i past))
    ∙ so_far.moved

-- the bytes of a piece lie in the slot
pub piece-within : (copied : List Place → ℕ → (ℕ → ℕ) → ℕ → ℕ) (before : List ℕ) (slot : ℕ) (pieces : List Piece) (now : List ℕ) (at i : ℕ) (d : Piece)
    → IsAtPiece copied before slot pieces now at (drop i pieces) → i < length pieces
    → (slot ≤ at) × (at + piece_len (get_or pieces i d) ≤ slot + total_len pieces)
piece-within copied before slot pieces now at i d so_far below =
    let end : at + total_len (drop i pieces) ≡ slot + total_len pieces = so_far.end in
    let sum : total_len (drop i pieces) ≡ piece_len (get_or pieces i d) + total_len (drop (i + 1) pieces) = total_len-from pieces i d below in
    (so_far.start, omega arith)
