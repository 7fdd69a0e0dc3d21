-- The units of a command: what they say of it, and that they lie in its namespace.
use Rattle.std.proofs.Common.{◌≡◌, ℕ, zero, suc, ◌+◌, ◌<◌, ◌≤◌, Bool, true, false, not, ◌&&◌, if◌then◌else◌, List, [], ◌∷◌, ◌++◌, map, length}
use Rattle.std.proofs.Common.{length-append, take, drop, sum_by, slice_get, All, Some, arith, refl, ap, ◌∙◌}
use Rattle.std.specs.Bool.{⊤}
use Rattle.std.specs.List.{list_all, range_with_len, enumerate_from}
use Rattle.std.proofs.lemmas.List.Elements.{All-nil, All-cons, All-append, All-head, All-tail, All-map}
use Rattle.std.proofs.lemmas.List.FromFn.{length-range_with_len, length-enumerate_from}
use Rattle.std.proofs.lemmas.List.{length-map}
use Rattle.std.proofs.lemmas.List.Sums.{sum_by-cons}
use Rattle.nv_entry.specs.Range.{blocks_of, start_of}
use Rattle.nv_entry.specs.Submission.{slba_of}
use Rattle.nv_ns.specs.BlockRange.{in_namespace}
use Rattle.nv_ns.proofs.Ranges.{InNamespace-tested}
use Rattle.nv_model.specs.Judge.{Form, Transfer, Clear, Manage, Keep, WorkUnit, MoveBlock, ClearBlock, LeaveBlock, KeepAll, clear_units, count_of, deallocates}
use Rattle.nv_model.specs.Judge.{form_has_blocks, form_units, is_fua, lbas_of, move_units, one_range_units, range_fits, range_units, ranges_in}
use Rattle.nv_model.specs.Laws.{IsUnitWithin}
use Rattle.nv_model.proofs.Endings.{and-true, not-false}

-- ---- what a unit says of its command

-- a unit is one of a command of this form
abbrev pub IsUnitOf : Form → List ℕ → WorkUnit → Type 0
IsUnitOf (Transfer dest) entry (MoveBlock index lba) = lba ≡ slba_of entry + index
IsUnitOf (Transfer dest) entry (ClearBlock lba mark) = ⊥
IsUnitOf (Transfer dest) entry (LeaveBlock lba) = ⊥
IsUnitOf (Transfer dest) entry (KeepAll all) = ⊥
IsUnitOf Clear entry (MoveBlock index lba) = ⊥
IsUnitOf Clear entry (ClearBlock lba mark) = mark ≡ is_fua entry
IsUnitOf Clear entry (LeaveBlock lba) = ⊥
IsUnitOf Clear entry (KeepAll all) = ⊥
IsUnitOf Manage entry (MoveBlock index lba) = ⊥
IsUnitOf Manage entry (ClearBlock lba mark) = mark ≡ false
IsUnitOf Manage entry (LeaveBlock lba) = ⊤
IsUnitOf Manage entry (KeepAll all) = ⊥
IsUnitOf Keep entry (MoveBlock index lba) = ⊥
IsUnitOf Keep entry (ClearBlock lba mark) = ⊥
IsUnitOf Keep entry (LeaveBlock lba) = ⊥
IsUnitOf Keep entry (KeepAll all) = ⊤

-- ---- ranges of numbers

All-enumerate_from : (P : ℕ → Type 0) (n : ℕ) (xs : List ℕ) → All P xs
    → All (λ (p : ℕ × ℕ). P p.1) (enumerate_from n xs)
All-enumerate_from P n [] each = All-nil (λ (p : ℕ × ℕ). P p.1)
All-enumerate_from P n (x ∷ xs) each =
    All-cons (λ (p : ℕ × ℕ). P p.1) (n, x) (enumerate_from (n + 1) xs) (All-head P x xs each) (All-enumerate_from P (n + 1) xs (All-tail P x xs each))

-- a range of numbers below another
range-below : (blocks start n : ℕ) → start + n ≤ blocks → All (λ lba. lba < blocks) (range_with_len start n)
range-below blocks start zero fit = All-nil (λ lba. lba < blocks)
range-below blocks start (suc n) fit =
    All-cons (λ lba. lba < blocks) start (range_with_len (start + 1) n) (omega arith) (range-below blocks (start + 1) n (omega arith))

-- the blocks of a range in the namespace
in_namespace-below : (blocks start n : ℕ) → in_namespace start n blocks ≡ true
    → All (λ lba. lba < blocks) (range_with_len start n)
in_namespace-below blocks start n is =
    let inside = InNamespace-tested start n blocks is in
    range-below blocks start n (omega arith)

-- ---- units of blocks

-- each moves a block of the namespace
move_units-within : (blocks : ℕ) (lbas : List ℕ) → All (λ lba. lba < blocks) lbas
    → All (IsUnitWithin blocks) (move_units lbas)
unfolding move_units
move_units-within blocks lbas each =
    All-map (IsUnitWithin blocks) (λ (p : ℕ × ℕ). MoveBlock p.0 p.1) (enumerate_from 0 lbas) (All-enumerate_from (λ lba. lba < blocks) 0 lbas each)

-- or clears one
clear_units-within : (blocks : ℕ) (mark : Bool) (lbas : List ℕ) → All (λ lba. lba < blocks) lbas
    → All (IsUnitWithin blocks) (clear_units mark lbas)
unfolding clear_units
clear_units-within blocks mark lbas each = All-map (IsUnitWithin blocks) (λ (lba : ℕ). ClearBlock lba mark) lbas each

-- the units of one range in the namespace
one_range_units-within : (deallocate : Bool) (blocks : ℕ) (range : List ℕ) → range_fits blocks range ≡ true
    → All (IsUnitWithin blocks) (one_range_units deallocate range)
one_range_units-within true blocks range fit =
    clear_units-within blocks false (range_with_len (start_of range) (blocks_of range)) (in_namespace-below blocks (start_of range) (blocks_of range) fit)
one_range_units-within false blocks range fit =
    All-map (IsUnitWithin blocks) LeaveBlock (range_with_len (start_of range) (blocks_of range)) (in_namespace-below blocks (start_of range) (blocks_of range) fit)

-- those of ranges in the namespace
pub range_units-within : (deallocate : Bool) (blocks : ℕ) (ranges : List (List ℕ))
    → list_all (range_fits blocks) ranges ≡ true
    → All (IsUnitWithin blocks) (range_units deallocate ranges)
unfolding range_units
range_units-within deallocate blocks [] fit = All-nil (IsUnitWithin blocks)
range_units-within deallocate blocks (range ∷ ranges) fit =
    let both = and-true (range_fits blocks range) (list_all (range_fits blocks) ranges) fit in
    All-append (IsUnitWithin blocks) (one_range_units deallocate range) (range_units deallocate ranges)
    (one_range_units-within deallocate blocks range both.0) (range_units-within deallocate blocks ranges both.1)

-- the units of a command, where its range of blocks, or each of its ranges, is in the namespace
pub form_units-within : (form : Form) (blocks : ℕ) (entry : List ℕ) (ranges : List (List ℕ))
    → (form_has_blocks form && not (in_namespace (slba_of entry) (count_of entry) blocks)) ≡ false
    → list_all (range_fits blocks) ranges ≡ true
    → All (IsUnitWithin blocks) (form_units form blocks entry ranges)
form_units-within (Transfer dest) blocks entry ranges fine fit =
    move_units-within blocks (lbas_of entry) (in_namespace-below blocks (slba_of entry) (count_of entry) (not-false _ fine))
form_units-within Clear blocks entry ranges fine fit =
    clear_units-within blocks (is_fua entry) (lbas_of entry) (in_namespace-below blocks (slba_of entry) (count_of entry) (not-false _ fine))
form_units-within Manage blocks entry ranges fine fit = range_units-within (deallocates entry) blocks ranges fit
form_units-within Keep blocks entry ranges fine fit =
    All-cons (IsUnitWithin blocks) (KeepAll blocks) [] refl (All-nil (IsUnitWithin blocks))

-- ---- each of them is the command's

move_units-own : (entry : List ℕ) (dest : Bool) (index lba n : ℕ) → lba ≡ slba_of entry + index
    → All (IsUnitOf (Transfer dest) entry) (map (λ (p : ℕ × ℕ). MoveBlock p.0 p.1) (enumerate_from index (range_with_len lba n)))
move_units-own entry dest index lba zero at = All-nil (IsUnitOf (Transfer dest) entry)
move_units-own entry dest index lba (suc n) at =
    All-cons (IsUnitOf (Transfer dest) entry) (MoveBlock index lba) (map (λ (p : ℕ × ℕ). MoveBlock p.0 p.1) (enumerate_from (index + 1) (range_with_len (lba + 1) n)))
    at (move_units-own entry dest (index + 1) (lba + 1) n (omega arith))

clear_units-own : (entry : List ℕ) (lbas : List ℕ) → All (IsUnitOf Clear entry) (clear_units (is_fua entry) lbas)
unfolding clear_units
clear_units-own entry [] = All-nil (IsUnitOf Clear entry)
clear_units-own entry (lba ∷ lbas) =
    All-cons (IsUnitOf Clear entry) (ClearBlock lba (is_fua entry)) (clear_units (is_fua entry) lbas) refl (clear_units-own entry lbas)

deallocated-own : (entry : List ℕ) (lbas : List ℕ) → All (IsUnitOf Manage entry) (clear_units false lbas)
unfolding clear_units
deallocated-own entry [] = All-nil (IsUnitOf Manage entry)
deallocated-own entry (lba ∷ lbas) =
    All-cons (IsUnitOf Manage entry) (ClearBlock lba false) (clear_units false lbas) refl (deallocated-own entry lbas)

left-own : (entry : List ℕ) (lbas : List ℕ) → All (IsUnitOf Manage entry) (map LeaveBlock lbas)
left-own entry [] = All-nil (IsUnitOf Manage entry)
left-own entry (lba ∷ lbas) =
    All-cons (IsUnitOf Manage entry) (LeaveBlock lba) (map LeaveBlock lbas) tt (left-own entry lbas)

one_range_units-own : (entry : List ℕ) (deallocate : Bool) (range : List ℕ)
    → All (IsUnitOf Manage entry) (one_range_units deallocate range)
one_range_units-own entry true range = deallocated-own entry (range_with_len (start_of range) (blocks_of range))
one_range_units-own entry false range = left-own entry (range_with_len (start_of range) (blocks_of range))

range_units-own : (entry : List ℕ) (deallocate : Bool) (ranges : List (List ℕ))
    → All (IsUnitOf Manage entry) (range_units deallocate ranges)
unfolding range_units
range_units-own entry deallocate [] = All-nil (IsUnitOf Manage entry)
range_units-own entry deallocate (range ∷ ranges) =
    All-append (IsUnitOf Manage entry) (one_range_units deallocate range) (range_units deallocate ranges)
    (one_range_units-own entry deallocate range) (range_units-own entry deallocate ranges)

-- each unit of a command is one of its form
pub form_units-own : (form : Form) (blocks : ℕ) (entry : List ℕ) (ranges : List (List ℕ))
    → All (IsUnitOf form entry) (form_units form blocks entry ranges)
unfolding move_units
form_units-own (Transfer dest) blocks entry ranges =
    move_units-own entry dest 0 (slba_of entry) (count_of entry) (omega arith)
form_units-own Clear blocks entry ranges = clear_units-own entry (lbas_of entry)
form_units-own Manage blocks entry ranges = range_units-own entry (deallocates entry) ranges
form_units-own Keep blocks entry ranges =
    All-cons (IsUnitOf Keep entry) (KeepAll blocks) [] tt (All-nil (IsUnitOf Keep entry))

-- ---- how many there are, and which

pub length-ranges_in : (n : ℕ) (bytes : List ℕ) → length (ranges_in n bytes) ≡ n
unfolding ranges_in
length-ranges_in zero bytes = refl
length-ranges_in (suc n) bytes = ap (λ (k : ℕ). suc k) (length-ranges_in n (drop 16 bytes))

-- the unit of a block that moves
move_unit-at : (start n k i : ℕ) → i < n
    → slice_get (map (λ p. MoveBlock p.0 p.1) (enumerate_from k (range_with_len start n))) i ≡ Some (MoveBlock (k + i) (start + i))
move_unit-at start zero k i below = absurd (omega arith)
move_unit-at start (suc n) k zero below =
    let same : k + 0 ≡ k = omega arith in
    let also : start + 0 ≡ start = omega arith in
    rw (same, also) refl
move_unit-at start (suc n) k (suc i) below =
    let same : k + suc i ≡ k + 1 + i = omega arith in
    let also : start + suc i ≡ start + 1 + i = omega arith in
    rw (same, also) (move_unit-at (start + 1) n (k + 1) i (omega arith))

pub move_units-at : (start n i : ℕ) → i < n
    → slice_get (move_units (range_with_len start n)) i ≡ Some (MoveBlock i (start + i))
unfolding move_units
move_units-at start n i below =
    let none : 0 + i ≡ i = omega arith in move_unit-at start n 0 i below ∙ ap (λ (j : ℕ). Some (MoveBlock j (start + i))) none

pub length-move_units : (start n : ℕ) → length (move_units (range_with_len start n)) ≡ n
unfolding move_units
length-move_units start n =
    length-map (enumerate_from 0 (range_with_len start n)) (λ (p : ℕ × ℕ). MoveBlock p.0 p.1)
    ∙ length-enumerate_from 0 (range_with_len start n) ∙ length-range_with_len start n

-- the unit of a block that is cleared
pub clear_units-at : (mark : Bool) (start n i : ℕ) → i < n
    → slice_get (clear_units mark (range_with_len start n)) i ≡ Some (ClearBlock (start + i) mark)
unfolding clear_units
clear_units-at mark start zero i below = absurd (omega arith)
clear_units-at mark start (suc n) zero below = let also : start + 0 ≡ start = omega arith in rw also refl
clear_units-at mark start (suc n) (suc i) below =
    let also : start + suc i ≡ start + 1 + i = omega arith in
    rw also (clear_units-at mark (start + 1) n i (omega arith))

pub length-clear_units : (mark : Bool) (start n : ℕ) → length (clear_units mark (range_with_len start n)) ≡ n
unfolding clear_units
length-clear_units mark start n =
    length-map (range_with_len start n) (λ (lba : ℕ). ClearBlock lba mark) ∙ length-range_with_len start n

-- ---- the units of ranges

-- the unit of a block of a range
abbrev pub range_unit : (deallocate : Bool) → (lba : ℕ) → WorkUnit
range_unit deallocate lba = if deallocate then ClearBlock lba false else LeaveBlock lba

left_units-at : (start n i : ℕ) → i < n → slice_get (map LeaveBlock (range_with_len start n)) i ≡ Some (LeaveBlock (start + i))
left_units-at start zero i below = absurd (omega arith)
left_units-at start (suc n) zero below = let also : start + 0 ≡ start = omega arith in rw also refl
left_units-at start (suc n) (suc i) below =
    let also : start + suc i ≡ start + 1 + i = omega arith in rw also (left_units-at (start + 1) n i (omega arith))

one_range_units-at : (deallocate : Bool) (range : List ℕ) (i : ℕ) → i < blocks_of range
    → slice_get (one_range_units deallocate range) i ≡ Some (range_unit deallocate (start_of range + i))
one_range_units-at true range i below = clear_units-at false (start_of range) (blocks_of range) i below
one_range_units-at false range i below = left_units-at (start_of range) (blocks_of range) i below

length-one_range_units : (deallocate : Bool) (range : List ℕ) → length (one_range_units deallocate range) ≡ blocks_of range
length-one_range_units true range = length-clear_units false (start_of range) (blocks_of range)
length-one_range_units false range =
    length-map (range_with_len (start_of range) (blocks_of range)) LeaveBlock ∙ length-range_with_len (start_of range) (blocks_of range)

-- as many as the ranges have blocks
pub length-range_units : (deallocate : Bool) (ranges : List (List ℕ)) → length (range_units deallocate ranges) ≡ sum_by blocks_of ranges
unfolding range_units
length-range_units deallocate [] = refl
length-range_units deallocate (range ∷ ranges) =
    let first = length-one_range_units deallocate range in
    let others = length-range_units deallocate ranges in
    let both = length-append (one_range_units deallocate range) (range_units deallocate ranges) in
    let sum = sum_by-cons blocks_of range ranges in omega arith

in_front : (xs ys : List WorkUnit) (i : ℕ) → i < length xs → slice_get (xs ++ ys) i ≡ slice_get xs i
in_front [] ys i below = absurd (omega arith)
in_front (x ∷ xs) ys zero below = refl
in_front (x ∷ xs) ys (suc i) below = in_front xs ys i (omega arith)

behind : (xs ys : List WorkUnit) (i at : ℕ) → at ≡ length xs + i → slice_get (xs ++ ys) at ≡ slice_get ys i
behind [] ys i at is = let same : at ≡ i = omega arith in ap (slice_get ys) same
behind (x ∷ xs) ys i zero is = absurd (omega arith)
behind (x ∷ xs) ys i (suc at) is = behind xs ys i at (omega arith)

-- and each block of a range has one, behind those of the ranges before it
pub range_units-at : (deallocate : Bool) (ranges : List (List ℕ)) (k i : ℕ) (range : List ℕ) → slice_get ranges k ≡ Some range
    → i < blocks_of range
    → slice_get (range_units deallocate ranges) (sum_by blocks_of (take k ranges) + i) ≡ Some (range_unit deallocate (start_of range + i))
unfolding range_units
range_units-at deallocate [] k i range is below = absurd (none k is)
  where
    none : (k : ℕ) → slice_get {X = List ℕ} [] k ≡ Some range → ⊥
    none zero is = (cc)
    none (suc k) is = (cc)
range_units-at deallocate (first ∷ ranges) zero i range is below =
    let same : first ≡ range = cc in
    let size = length-one_range_units deallocate first in
    let count = ap blocks_of same in
    let at : 0 + i ≡ i = omega arith in
    ap (slice_get (range_units deallocate (first ∷ ranges))) at
    ∙ in_front (one_range_units deallocate first) (range_units deallocate ranges) i (omega arith)
    ∙ one_range_units-at deallocate first i (omega arith) ∙ ap (λ (r : List ℕ). Some (range_unit deallocate (start_of r + i))) same
range_units-at deallocate (first ∷ ranges) (suc k) i range is below =
    let size = length-one_range_units deallocate first in
    let sum = sum_by-cons blocks_of first (take k ranges) in
    behind (one_range_units deallocate first) (range_units deallocate ranges) (sum_by blocks_of (take k ranges) + i)
    (sum_by blocks_of (first ∷ take k ranges) + i) (omega arith)
    ∙ range_units-at deallocate ranges k i range is below
