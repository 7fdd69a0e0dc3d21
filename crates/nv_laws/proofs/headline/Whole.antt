-- A share as the device takes it: each unit of its own is left, since the device's unit behind it is.
use Rattle.std.proofs.Common.{◌≡◌, ℕ, zero, suc, ◌+◌, ◌*◌, ◌^◌, ◌<◌, ◌≤◌, Bool, true, cond, ◌==◌, List, [], ◌∷◌, All, filter, flat_map, length, map, replicate}
use Rattle.std.proofs.Common.{slice_get, Option, Some, arith, refl, sym, ap, ◌∙◌, subst}
use Rattle.std.specs.List.{cons_option, enumerate_from, filter_map, list_any, range_with_len}
use Rattle.std.proofs.lemmas.List.Elements.{All-append, All-cons, All-head, All-nil, All-tail}
use Rattle.nv_entry.specs.Range.{blocks_of}
use Rattle.nv_mem.specs.Places.{At, Place, total_len}
use Rattle.nv_model.specs.Judge.{Clear, Form, Keep, Manage, Transfer, Work, deallocates, form_of}
use Rattle.nv_model.specs.Limits.{block}
use Rattle.nv_model.specs.Private.{places_of_block}
use Rattle.nv_ns.specs.Extents.{Namespace, blocks_in}
use Rattle.nv_world_model.specs.Geometry.{Guest}
use Rattle.nv_world_model.specs.Plan.{Answer, Bounced, Direct, NoData, Plan}
use Rattle.nv_world_model.specs.Share.{Share}
use Rattle.nv_world_model.specs.Seat.{form_numbers, numbers_behind, numbers_by, units_behind, work_of}
use Rattle.nv_laws_sound.specs.Consistent.{IsPlanned}
use Rattle.nv_laws_sound.proofs.EntryFields.{own_units}
use Rattle.nv_laws_sound.proofs.Named.{row-all}
use Rattle.nv_laws_sound.proofs.OwnWork.{own_len}
use Rattle.nv_laws_sound.proofs.PlanSizes.{own_work}
use Rattle.nv_laws.proofs.units.OwnShares.{AreUnitsOf, IsOwnShare, own-share}
use Rattle.nv_laws.proofs.units.OwnUnits.{counted-ranges, counted-row}
use Rattle.nv_laws.proofs.units.Renamed.{part-of}
use Rattle.nv_laws.specs.Related.{HasBuffer, form_has_bytes}
use Rattle.nv_laws.proofs.related.Keeping.{row-any}
use Rattle.nv_laws.proofs.related.Views.{block-place}
use Rattle.nv_laws.proofs.related.Within.{planned-own}

-- ---- numbers that all are left

-- one of the numbers that are left
abbrev IsIn : (left : List ℕ) → (number : ℕ) → Type 0
IsIn left number = list_any (λ k. k == number) left ≡ true

-- where each number beside a place is left, each place is
places-all : (left : List ℕ) (from : ℕ) (numbers : List ℕ) → All (IsIn left) numbers
    → map (λ (u : ℕ × ℕ). u.0) (filter (λ (u : ℕ × ℕ). list_any (λ k. k == u.1) left) (enumerate_from from numbers)) ≡ range_with_len from (length numbers)
places-all left from [] each = refl
places-all left from (n ∷ numbers) each =
    let further_on = filter (λ (u : ℕ × ℕ). list_any (λ k. k == u.1) left) (enumerate_from (from + 1) numbers) in
    ap (λ b. map (λ (u : ℕ × ℕ). u.0) (cond b ((from, n) ∷ further_on) further_on)) (All-head (IsIn left) n numbers each)
    ∙ ap (λ ns. from ∷ ns) (places-all left (from + 1) numbers (All-tail (IsIn left) n numbers each))

replicate-all : (P : ℕ → Type 0) (many number : ℕ) → P number → All P (replicate many number)
replicate-all P zero number is = All-nil P
replicate-all P (suc many) number is = All-cons P number (replicate many number) is (replicate-all P many number is)

ranges-all : (P : ℕ → Type 0) (from : ℕ) (ranges : List (List ℕ)) → ((n : ℕ) → from ≤ n → n < from + length ranges → P n)
    → All P (flat_map (λ (r : ℕ × List ℕ). replicate (blocks_of r.1) r.0) (enumerate_from from ranges))
ranges-all P from [] each = All-nil P
ranges-all P from (range ∷ ranges) each =
    All-append P (replicate (blocks_of range) from) (flat_map (λ (r : ℕ × List ℕ). replicate (blocks_of r.1) r.0) (enumerate_from (from + 1) ranges))
    (replicate-all P (blocks_of range) from (each from (omega arith) (omega arith)))
    (ranges-all P (from + 1) ranges (λ n low high. each n (omega (arith, low)) (omega (arith, high))))

numbers-all : (P : ℕ → Type 0) (form : Form) (own : Work) → (form ≡ Keep → length own.units ≡ 1) → ((n : ℕ) → n < own_units form own → P n)
    → All P (form_numbers form own)
numbers-all P (Transfer dest) own one each = row-all P 0 (length own.units) (λ n low high. each n (omega (arith, high)))
numbers-all P Clear own one each = row-all P 0 (length own.units) (λ n low high. each n (omega (arith, high)))
numbers-all P Manage own one each = ranges-all P 0 own.ranges (λ n low high. each n (omega (arith, high)))
numbers-all P Keep own one each =
    let many = one refl in
    row-all P 0 (length own.units) (λ n low high. each n (omega (arith, high, many)))

-- as many numbers as units
own-numbered : (form : Form) (ns : Namespace) (entry : List ℕ) (first : ℕ) (own : Work) → blocks_in ns < 2 ^ 32 → AreUnitsOf form ns entry first own
    → length (form_numbers form own) ≡ length own.units
own-numbered (Transfer dest) ns entry first own few units = counted-row (Transfer dest) own (λ e. cc)
own-numbered Clear ns entry first own few units = counted-row Clear own (λ e. cc)
own-numbered Manage ns entry first own few units = counted-ranges own (deallocates entry) (units few)
own-numbered Keep ns entry first own few units = counted-row Keep own (λ e. cc)

keep-one : (form : Form) (ns : Namespace) (entry : List ℕ) (first : ℕ) (own : Work) → AreUnitsOf form ns entry first own → form ≡ Keep → length own.units ≡ 1
keep-one (Transfer dest) ns entry first own units e = cc
keep-one Clear ns entry first own units e = cc
keep-one Manage ns entry first own units e = cc
keep-one Keep ns entry first own units e = ap length units

-- a list by all its places
all-places : (f : ℕ → Option ℕ) (from : ℕ) (ns : List ℕ) → ((k : ℕ) → f (from + k) ≡ slice_get ns k) → filter_map f (range_with_len from (length ns)) ≡ ns
all-places f from [] each = refl
all-places f from (n ∷ ns) each =
    let here : from + 0 ≡ from = omega arith in
    ap (λ o. cons_option o (filter_map f (range_with_len (from + 1) (length ns)))) (sym (ap f here) ∙ each zero)
    ∙ ap (λ xs. n ∷ xs)
    (all-places f (from + 1) ns (λ k. (let on : from + 1 + k ≡ from + suc k = omega arith in ap f on ∙ each (suc k))))

module _ (guest : Guest) (entry : List ℕ) (share : Share) (is : IsPlanned guest entry share) where
  abbrev own : Work
  own = own_work guest entry share is

  -- how many units the device has of it
  abbrev pub unit_total : ℕ
  unit_total = own_units (form_of own.opcode) own

  -- all are left where all of the device's are
  pub all-behind : blocks_in guest.namespace < 2 ^ 32 → numbers_behind share (range_with_len 0 unit_total) ≡ share.numbers
  unfolding units_behind
  all-behind few =
      let mine : IsOwnShare guest entry share own = own-share guest entry share is in
      let part = part-of guest entry share is own (planned-own guest entry share is) in
      let numbers = form_numbers (form_of own.opcode) own in
      let left = range_with_len 0 unit_total in
      ap (λ o. numbers_by o share.numbers left) (planned-own guest entry share is)
      ∙ ap (filter_map (slice_get share.numbers))
      (places-all left 0 numbers
      (numbers-all (IsIn left) (form_of own.opcode) own (keep-one (form_of own.opcode) guest.namespace entry mine.first own mine.units)
      (λ n below. row-any n 0 unit_total (omega arith) (omega (arith, below))))
      ∙ ap (range_with_len 0) (own-numbered (form_of own.opcode) guest.namespace entry mine.first own few mine.units ∙ part.size))
      ∙ all-places (slice_get share.numbers) 0 share.numbers (λ k. (let none : 0 + k ≡ k = omega arith in ap (slice_get share.numbers) none))

  -- a block of which a byte has a place is one of its units
  pub placed-below : (dest : Bool) (index i : ℕ) (x : Place) → form_of own.opcode ≡ Transfer dest → slice_get (places_of_block own index) i ≡ Some x
      → index < unit_total
  placed-below dest index i x form at =
      let mine : IsOwnShare guest entry share own = own-share guest entry share is in
      let total : total_len own.pieces ≡ block * length own.units = mine.total ∙ ap (λ f. own_len f own) form in
      let within = (block-place own index i x at).1 in
      let below : index < length own.units = omega (arith, total, within) in
      subst (λ f. index < own_units f own) (sym form) below

-- ---- buffers

-- a buffer is there with other units left, where no byte more of it has to be
pub buffer-fewer : (plan : Plan) (left right : ℕ → Bool) (bounce : ℕ) (host memory : ℕ → ℕ)
    → ((work : Work) (index i addr : ℕ) → work_of plan ≡ Some work → slice_get (places_of_block work index) i ≡ Some (At addr)
    → form_has_bytes (form_of work.opcode) (right index) ≡ true → form_has_bytes (form_of work.opcode) (left index) ≡ true)
    → HasBuffer plan left bounce host memory → HasBuffer plan right bounce host memory
buffer-fewer (Answer st) left right bounce host memory fewer was = tt
buffer-fewer (NoData work) left right bounce host memory fewer was = tt
buffer-fewer (Direct work) left right bounce host memory fewer was = tt
buffer-fewer (Bounced work) left right bounce host memory fewer was =
    λ index has i addr at. was index (fewer work index i addr refl at has) i addr at
