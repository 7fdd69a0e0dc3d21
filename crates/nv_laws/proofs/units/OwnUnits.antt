-- Which units of a share's own work a unit of the device's stands for: one of its own, or of a range all its blocks'.
use Rattle.std.proofs.Common.{◌≡◌, ℕ, zero, suc, ◌+◌, ◌<◌, Bool, true, false, ◌||◌, ◌==◌, cond, List, [], ◌∷◌, ◌++◌}
use Rattle.std.proofs.Common.{filter, flat_map, length, map, replicate}
use Rattle.std.proofs.Common.{slice_get, Option, Some, option_to_list, arith, refl, sym, ap, ◌∙◌, append-nil, eq-eqb, length-append}
use Rattle.std.specs.List.{enumerate_from, list_any, range_with_len}
use Rattle.std.proofs.lemmas.Bool.{ne_eqb}
use Rattle.std.proofs.lemmas.List.{length-map, length-replicate}
use Rattle.std.proofs.lemmas.List.FromFn.{length-range_with_len}
use Rattle.nv_entry.specs.Range.{blocks_of, start_of}
use Rattle.nv_model.specs.Judge.{Clear, Form, Keep, LeaveBlock, Manage, Transfer, Work, WorkUnit, form_of, one_range_units, range_units}
use Rattle.nv_model.specs.Private.{numbers_of}
use Rattle.nv_model.proofs.Units.{length-clear_units}
use Rattle.nv_world_model.specs.Seat.{form_numbers, units_behind}
use Rattle.nv_laws.specs.Units.{part_units}

-- ---- units that have a number

-- the units beside whose places this number stands
chosen : (number : ℕ) → List ℕ → List WorkUnit → List WorkUnit
chosen number [] units = []
chosen number (n ∷ numbers) [] = []
chosen number (n ∷ numbers) (unit ∷ units) =
    cond (number == n) (unit ∷ chosen number numbers units) (chosen number numbers units)

-- the places beside which it stands, from a place on
abbrev places_from : (number from : ℕ) → List ℕ → List ℕ
places_from number from numbers =
    map (λ (u : ℕ × ℕ). u.0) (filter (λ (u : ℕ × ℕ). list_any (λ k. k == u.1) (number ∷ [])) (enumerate_from from numbers))

-- the units at those places are these
units-chosen : (number : ℕ) (get : ℕ → Option WorkUnit) (from : ℕ) (numbers : List ℕ) (units : List WorkUnit) → length numbers ≡ length units
    → ((i : ℕ) → i < length units → get (from + i) ≡ slice_get units i)
    → flat_map (λ k. option_to_list (get k)) (places_from number from numbers) ≡ chosen number numbers units
unfolding chosen
units-chosen number get from [] units same each = refl
units-chosen number get from (n ∷ numbers) [] same each = absurd (omega (arith, same))
units-chosen number get from (n ∷ numbers) (unit ∷ units) same each =
    (let here : from + 0 ≡ from = omega arith in
    let first : get from ≡ Some unit = ap get (sym here) ∙ each 0 (omega arith) in
    let rest : flat_map (λ k. option_to_list (get k)) (places_from number (from + 1) numbers) ≡ chosen number numbers units =
    units-chosen number get (from + 1) numbers units (omega (arith, same))
    (λ i below. (let next : from + 1 + i ≡ from + suc i = omega arith in ap get next ∙ each (suc i) (omega (arith, below)))) in
    by_test (number == n) first rest)
  where
    by_test : (b : Bool) → get from ≡ Some unit → flat_map (λ k. option_to_list (get k)) (places_from number (from + 1) numbers) ≡ chosen number numbers units
        → flat_map (λ k. option_to_list (get k))
        (map (λ (u : ℕ × ℕ). u.0) (cond (b || false) ((from, n) ∷ filter (λ (u : ℕ × ℕ). list_any (λ k. k == u.1) (number ∷ [])) (enumerate_from (from + 1) numbers))
        (filter (λ (u : ℕ × ℕ). list_any (λ k. k == u.1) (number ∷ [])) (enumerate_from (from + 1) numbers))))
        ≡ cond b (unit ∷ chosen number numbers units) (chosen number numbers units)
    by_test true first rest =
        ap (λ o. option_to_list o ++ flat_map (λ k. option_to_list (get k)) (places_from number (from + 1) numbers)) first ∙ ap (λ us. unit ∷ us) rest
    by_test false first rest = rest

own-chosen : (work : Work) (number : ℕ) → length (form_numbers (form_of work.opcode) work) ≡ length work.units
    → part_units work number ≡ chosen number (form_numbers (form_of work.opcode) work) work.units
unfolding units_behind
own-chosen work number same =
    units-chosen number (slice_get work.units) 0 (form_numbers (form_of work.opcode) work) work.units same
    (λ i below. (let none : 0 + i ≡ i = omega arith in ap (slice_get work.units) none))

-- ---- numbers in a row

chosen-past : (number from : ℕ) (units : List WorkUnit) → number < from → chosen number (range_with_len from (length units)) units ≡ []
unfolding chosen
chosen-past number from [] below = refl
chosen-past number from (unit ∷ units) below =
    ap (λ b. cond b (unit ∷ chosen number (range_with_len (from + 1) (length units)) units) (chosen number (range_with_len (from + 1) (length units)) units))
    (ne_eqb number from (λ same. absurd (omega (arith, same, below))))
    ∙ chosen-past number (from + 1) units (omega (arith, below))

chosen-row : (from k : ℕ) (units : List WorkUnit) (it : WorkUnit) → slice_get units k ≡ Some it
    → chosen (from + k) (range_with_len from (length units)) units ≡ it ∷ []
unfolding chosen
chosen-row from k [] it found = cc
chosen-row from zero (unit ∷ units) it found =
    let same : unit ≡ it = cc in
    let here : from + 0 ≡ from = omega arith in
    ap (λ b. cond b (unit ∷ chosen (from + 0) (range_with_len (from + 1) (length units)) units) (chosen (from + 0) (range_with_len (from + 1) (length units)) units))
    (eq-eqb (from + 0) from here)
    ∙ ap (λ us. unit ∷ us) (chosen-past (from + 0) (from + 1) units (omega arith)) ∙ ap (λ u. u ∷ []) same
chosen-row from (suc k) (unit ∷ units) it found =
    let next : from + suc k ≡ from + 1 + k = omega arith in
    ap (λ b. cond b (unit ∷ chosen (from + suc k) (range_with_len (from + 1) (length units)) units) (chosen (from + suc k) (range_with_len (from + 1) (length units)) units))
    (ne_eqb (from + suc k) from (λ same. absurd (omega (arith, same))))
    ∙ ap (λ n. chosen n (range_with_len (from + 1) (length units)) units) next ∙ chosen-row (from + 1) k units it found

-- a unit of a command whose units are the device's stands for itself
pub own-one : (work : Work) (number : ℕ) (unit : WorkUnit) → form_numbers (form_of work.opcode) work ≡ numbers_of work → slice_get work.units number ≡ Some unit
    → part_units work number ≡ unit ∷ []
own-one work number unit numbered found =
    let none : number ≡ 0 + number = omega arith in
    own-chosen work number (ap length numbered ∙ length-range_with_len 0 (length work.units))
    ∙ ap (λ ns. chosen number ns work.units) numbered ∙ ap (λ n. chosen n (numbers_of work) work.units) none
    ∙ chosen-row 0 number work.units unit found

-- ---- ranges

-- the numbers of ranges, once for each block, from a number on
abbrev range_numbers : (from : ℕ) → List (List ℕ) → List ℕ
range_numbers from ranges = flat_map (λ (r : ℕ × List ℕ). replicate (blocks_of r.1) r.0) (enumerate_from from ranges)

length-one_range : (deallocate : Bool) (range : List ℕ) → length (one_range_units deallocate range) ≡ blocks_of range
length-one_range true range = length-clear_units false (start_of range) (blocks_of range)
length-one_range false range =
    length-map (range_with_len (start_of range) (blocks_of range)) LeaveBlock ∙ length-range_with_len (start_of range) (blocks_of range)

length-range_numbers : (deallocate : Bool) (from : ℕ) (ranges : List (List ℕ)) → length (range_numbers from ranges) ≡ length (flat_map (one_range_units deallocate) ranges)
length-range_numbers deallocate from [] = refl
length-range_numbers deallocate from (range ∷ ranges) =
    let one = length-one_range deallocate range in
    let numbers = length-replicate (blocks_of range) from in
    let rest = length-range_numbers deallocate (from + 1) ranges in
    length-append (replicate (blocks_of range) from) (range_numbers (from + 1) ranges)
    ∙ omega (arith, one, numbers, rest)
    ∙ sym (length-append (one_range_units deallocate range) (flat_map (one_range_units deallocate) ranges))

chosen-append : (number : ℕ) (numbers more : List ℕ) (units others : List WorkUnit) → length numbers ≡ length units
    → chosen number (numbers ++ more) (units ++ others) ≡ chosen number numbers units ++ chosen number more others
unfolding chosen
chosen-append number [] more [] others same = refl
chosen-append number [] more (unit ∷ units) others same = absurd (omega (arith, same))
chosen-append number (n ∷ numbers) more [] others same = absurd (omega (arith, same))
chosen-append number (n ∷ numbers) more (unit ∷ units) others same =
    by_test (number == n) (chosen-append number numbers more units others (omega (arith, same)))
  where
    by_test : (b : Bool) → chosen number (numbers ++ more) (units ++ others) ≡ chosen number numbers units ++ chosen number more others
        → cond b (unit ∷ chosen number (numbers ++ more) (units ++ others)) (chosen number (numbers ++ more) (units ++ others))
        ≡ cond b (unit ∷ chosen number numbers units) (chosen number numbers units) ++ chosen number more others
    by_test true rest = ap (λ us. unit ∷ us) rest
    by_test false rest = rest

chosen-all : (number n : ℕ) (units : List WorkUnit) → (number == n) ≡ true → chosen number (replicate (length units) n) units ≡ units
unfolding chosen
chosen-all number n [] is = refl
chosen-all number n (unit ∷ units) is =
    ap (λ b. cond b (unit ∷ chosen number (replicate (length units) n) units) (chosen number (replicate (length units) n) units)) is
    ∙ ap (λ us. unit ∷ us) (chosen-all number n units is)

chosen-none : (number n : ℕ) (units : List WorkUnit) → (number == n) ≡ false → chosen number (replicate (length units) n) units ≡ []
unfolding chosen
chosen-none number n [] is = refl
chosen-none number n (unit ∷ units) is =
    ap (λ b. cond b (unit ∷ chosen number (replicate (length units) n) units) (chosen number (replicate (length units) n) units)) is
    ∙ chosen-none number n units is

-- the first range's, and those of the others
ranges-split : (deallocate : Bool) (number from : ℕ) (range : List ℕ) (ranges : List (List ℕ))
    → chosen number (range_numbers from (range ∷ ranges)) (flat_map (one_range_units deallocate) (range ∷ ranges))
    ≡ chosen number (replicate (length (one_range_units deallocate range)) from) (one_range_units deallocate range)
    ++ chosen number (range_numbers (from + 1) ranges) (flat_map (one_range_units deallocate) ranges)
ranges-split deallocate number from range ranges =
    let one = length-one_range deallocate range in
    chosen-append number (replicate (blocks_of range) from) (range_numbers (from + 1) ranges) (one_range_units deallocate range)
    (flat_map (one_range_units deallocate) ranges) (length-replicate (blocks_of range) from ∙ sym one)
    ∙ ap (λ n. chosen number (replicate n from) (one_range_units deallocate range) ++ chosen number (range_numbers (from + 1) ranges) (flat_map (one_range_units deallocate) ranges)) (sym one)

ranges-past : (deallocate : Bool) (number from : ℕ) (ranges : List (List ℕ)) → number < from
    → chosen number (range_numbers from ranges) (flat_map (one_range_units deallocate) ranges) ≡ []
unfolding chosen
ranges-past deallocate number from [] below = refl
ranges-past deallocate number from (range ∷ ranges) below =
    ranges-split deallocate number from range ranges
    ∙ ap (λ us. us ++ chosen number (range_numbers (from + 1) ranges) (flat_map (one_range_units deallocate) ranges))
    (chosen-none number from (one_range_units deallocate range) (ne_eqb number from (λ same. absurd (omega (arith, same, below)))))
    ∙ ranges-past deallocate number (from + 1) ranges (omega (arith, below))

ranges-one : (deallocate : Bool) (from k : ℕ) (ranges : List (List ℕ)) (range : List ℕ) → slice_get ranges k ≡ Some range
    → chosen (from + k) (range_numbers from ranges) (flat_map (one_range_units deallocate) ranges) ≡ one_range_units deallocate range
ranges-one deallocate from k [] range found = cc
ranges-one deallocate from zero (first ∷ ranges) range found =
    let same : first ≡ range = cc in
    let here : from + 0 ≡ from = omega arith in
    ranges-split deallocate (from + 0) from first ranges
    ∙ ap (λ us. us ++ chosen (from + 0) (range_numbers (from + 1) ranges) (flat_map (one_range_units deallocate) ranges))
    (chosen-all (from + 0) from (one_range_units deallocate first) (eq-eqb (from + 0) from here))
    ∙ ap (λ us. one_range_units deallocate first ++ us) (ranges-past deallocate (from + 0) (from + 1) ranges (omega arith))
    ∙ append-nil (one_range_units deallocate first) ∙ ap (one_range_units deallocate) same
ranges-one deallocate from (suc k) (first ∷ ranges) range found =
    let next : from + suc k ≡ from + 1 + k = omega arith in
    ranges-split deallocate (from + suc k) from first ranges
    ∙ ap (λ us. us ++ chosen (from + suc k) (range_numbers (from + 1) ranges) (flat_map (one_range_units deallocate) ranges))
    (chosen-none (from + suc k) from (one_range_units deallocate first) (ne_eqb (from + suc k) from (λ same. absurd (omega (arith, same)))))
    ∙ ap (λ n. chosen n (range_numbers (from + 1) ranges) (flat_map (one_range_units deallocate) ranges)) next
    ∙ ranges-one deallocate (from + 1) k ranges range found

-- a range of a Dataset Management stands for all its blocks' units
pub own-range : (work : Work) (number : ℕ) (deallocate : Bool) (range : List ℕ) → form_numbers (form_of work.opcode) work ≡ range_numbers 0 work.ranges
    → work.units ≡ range_units deallocate work.ranges → slice_get work.ranges number ≡ Some range → part_units work number ≡ one_range_units deallocate range
unfolding range_units
own-range work number deallocate range numbered units found =
    let none : number ≡ 0 + number = omega arith in
    own-chosen work number (ap length numbered ∙ length-range_numbers deallocate 0 work.ranges ∙ sym (ap length units))
    ∙ ap (λ ns. chosen number ns work.units) numbered ∙ ap (λ us. chosen number (range_numbers 0 work.ranges) us) units
    ∙ ap (λ n. chosen n (range_numbers 0 work.ranges) (flat_map (one_range_units deallocate) work.ranges)) none
    ∙ ranges-one deallocate 0 number work.ranges range found

-- as many numbers as units
pub counted-row : (form : Form) (work : Work) → (form ≡ Manage → ⊥) → length (form_numbers form work) ≡ length work.units
counted-row (Transfer dest) work other = length-range_with_len 0 (length work.units)
counted-row Clear work other = length-range_with_len 0 (length work.units)
counted-row Manage work other = absurd (other refl)
counted-row Keep work other = length-range_with_len 0 (length work.units)

pub counted-ranges : (work : Work) (deallocate : Bool) → work.units ≡ range_units deallocate work.ranges
    → length (form_numbers Manage work) ≡ length work.units
unfolding range_units
counted-ranges work deallocate units = length-range_numbers deallocate 0 work.ranges ∙ sym (ap length units)
