-- The blocks that a physical command names on the disk, itself or in its ranges, are its guest's.
use Rattle.std.proofs.Common.{◌≡◌, ℕ, zero, suc, ◌+◌, ◌-◌, ◌*◌, ◌^◌, ◌<◌, ◌≤◌, ◌⊎◌, inl, inr, Bool, true}
use Rattle.std.proofs.Common.{false, ◌||◌, ◌==◌, nat_le, List, [], ◌∷◌, All, drop}
use Rattle.std.proofs.Common.{flat_map, length, map, slice_get, take, Some, arith, refl, sym, ap, ◌∙◌, eqb-true, leb-true, subst}
use Rattle.std.specs.List.{list_any, range_with_len}
use Rattle.std.proofs.lemmas.List.{drop-map}
use Rattle.std.proofs.lemmas.List.Elements.{All-cons, All-head, All-map, All-nil, All-tail}
use Rattle.std.proofs.lemmas.List.FromFn.{take-map-range_with_len}
use Rattle.byteorder.specs.Numbers.{little_number-reads_back}
use Rattle.nv_entry.specs.Layout.{dword, number_at, number_bytes, qword}
use Rattle.nv_entry.specs.Range.{blocks_of, start_of}
use Rattle.nv_entry.specs.Submission.{opcode_of, slba_of}
use Rattle.nv_mem.specs.GuestMap.{mapped}
use Rattle.nv_mem.specs.Places.{At, addresses, places_of, total_len}
use Rattle.nv_model.specs.Laws.{IsElsewhere}
use Rattle.nv_model.specs.Judge.{ClearBlock, LeaveBlock, clear_units, one_range_units, Clear, Form, Keep, Manage, Transfer, Work, count_of, form_has_blocks, form_of}
use Rattle.nv_model.specs.Judge.{has_blocks}
use Rattle.nv_model.specs.Memory.{bytes_from, gathered}
use Rattle.nv_model.proofs.AnyAnswers.{end-sound, end-within}
use Rattle.nv_model.proofs.Endings.{and-true}
use Rattle.nv_model.proofs.Judged.{IsSoundWork}
use Rattle.nv_model.proofs.MemoryLemmas.{gathered-addresses}
use Rattle.nv_ns.specs.Extents.{Namespace, blocks_in, place_in}
use Rattle.nv_prp.specs.declared.prps.Prps.{Prps}
use Rattle.nv_world_model.specs.Area.{addresses_of, bounce_page, list_page, physical_entry, prps_of, range_place, translated_range}
use Rattle.nv_world_model.specs.Device.{Held, form_unit_count, range_at, unit_count}
use Rattle.nv_world_model.specs.Geometry.{Geometry, Guest, regions_of, shape_of}
use Rattle.nv_world_model.specs.Plan.{Bounced, Direct, NoData, go_plan}
use Rattle.nv_world_model.specs.Share.{Share, with_work}
use Rattle.nv_world_model.specs.ShareArea.{first_lba, own_dwords, share_entry, work_dwords}
use Rattle.nv_world_model.specs.ShareArea.{is_no_command}
use Rattle.nv_world_model.specs.View.{in_extents}
use Rattle.nv_laws_sound.specs.Area.{Shows, form_ranges, ranges_of}
use Rattle.nv_laws_sound.specs.Consistent.{IsInDevice, IsPlanned}
use Rattle.nv_laws_sound.specs.LaidOut.{IsLaidOut}
use Rattle.nv_laws_sound.proofs.EntryFields.{form-back, form-start, own_units}
use Rattle.nv_laws_sound.proofs.Lists.{slice_get-there}
use Rattle.nv_laws_sound.proofs.Named.{row-all}
use Rattle.nv_laws_sound.proofs.Namespaces.{AreOwn, place-fits, place-own, range_place-ends}
use Rattle.nv_laws_sound.proofs.Numbers.{all-at}
use Rattle.nv_laws_sound.proofs.OwnRows.{IsRangeRow}
use Rattle.nv_laws_sound.proofs.OwnWork.{IsOwn, IsRow, own-of, own_len}
use Rattle.nv_laws_sound.proofs.PlanSizes.{own-counts, own_work, planned-kinds}
use Rattle.nv_laws_sound.proofs.Shows.{shows-append}

-- ---- a translated range

-- what is read back of it
pub translated-blocks : (ns : Namespace) (range : List ℕ) → blocks_of range < 2 ^ 32
    → blocks_of (translated_range ns range) ≡ blocks_of range
unfolding dword number_at
translated-blocks ns range fits = little_number-reads_back 4 (blocks_of range) (number_bytes 8 (range_place ns range)) fits

pub translated-start : (ns : Namespace) (range : List ℕ) → range_place ns range < 2 ^ 64
    → start_of (translated_range ns range) ≡ range_place ns range
unfolding qword number_at
translated-start ns range fits = little_number-reads_back 8 (range_place ns range) [] fits

-- a range that was written stands in its place
pub shown-range : (ns : Namespace) (memory : ℕ → ℕ) (ranges : List (List ℕ)) (n : ℕ) (at : ℕ) (range : List ℕ) → slice_get ranges n ≡ Some range
    → Shows memory at (flat_map (translated_range ns) ranges) → bytes_from memory (at + 16 * n) 16 ≡ translated_range ns range
shown-range ns memory [] n at range found shown = cc
shown-range ns memory (r ∷ ranges) zero at range found shown =
    let same : r ≡ range = cc in
    let parts = shows-append memory at (translated_range ns r) (flat_map (translated_range ns) ranges) shown in
    let here : at + 16 * 0 ≡ at = omega arith in
    rw here (parts.0 ∙ ap (translated_range ns) same)
shown-range ns memory (r ∷ ranges) (suc n) at range found shown =
    let parts = shows-append memory at (translated_range ns r) (flat_map (translated_range ns) ranges) shown in
    let rest = shown-range ns memory ranges n (at + 16) range found parts.1 in
    let here : at + 16 * suc n ≡ at + 16 + 16 * n = omega arith in
    rw here rest

-- dropping a row's front leaves its end
pub drop-row : (k from len : ℕ) → drop k (range_with_len from (k + len)) ≡ range_with_len (from + k) len
drop-row zero from len =
    let here : from + 0 ≡ from = omega arith in
    let none : 0 + len ≡ len = omega arith in
    rw (here, none) refl
drop-row (suc k) from len =
    let more : suc k + len ≡ suc (k + len) = omega arith in
    let here : from + suc k ≡ from + 1 + k = omega arith in
    rw (more, here) (drop-row k (from + 1) len)

-- the bytes of 16 places of a row
pub row-bytes : (memory : ℕ → ℕ) (bounce k rest : ℕ) → gathered memory (take 16 (drop k (map At (range_with_len bounce (k + (16 + rest)))))) ≡ bytes_from memory (bounce + k) 16
unfolding addresses
row-bytes memory bounce k rest =
    ap (λ ps. gathered memory (take 16 ps)) (drop-map At k (range_with_len bounce (k + (16 + rest))) ∙ ap (map At) (drop-row k bounce (16 + rest)))
    ∙ ap (gathered memory) (take-map-range_with_len At (bounce + k) (16 + rest) 16 (omega arith))
    ∙ gathered-addresses memory (bounce + k) 16

-- ---- units of a range

-- each block of a row outside of which a block lies is elsewhere
clears-elsewhere : (at from len : ℕ) (mark : Bool) → (at < from) ⊎ (from + len ≤ at) → All (IsElsewhere at) (clear_units mark (range_with_len from len))
unfolding clear_units
clears-elsewhere at from len mark away =
    All-map (IsElsewhere at) (λ lba. ClearBlock lba mark) (range_with_len from len)
    (row-all (λ lba. IsElsewhere at (ClearBlock lba mark)) from len (λ lba low high same. off lba low high same away))
  where
    off : (lba : ℕ) → from ≤ lba → lba < from + len → lba ≡ at → (at < from) ⊎ (from + len ≤ at) → ⊥
    off lba low high same (inl before) = absurd (omega (arith, low, same, before))
    off lba low high same (inr behind) = absurd (omega (arith, high, same, behind))

leaves-elsewhere : (at : ℕ) (lbas : List ℕ) → All (IsElsewhere at) (map LeaveBlock lbas)
leaves-elsewhere at lbas = All-map (IsElsewhere at) LeaveBlock lbas (row-tt lbas)
  where
    row-tt : (lbas : List ℕ) → All (λ lba. IsElsewhere at (LeaveBlock lba)) lbas
    row-tt [] = All-nil (λ lba. IsElsewhere at (LeaveBlock lba))
    row-tt (lba ∷ lbas) = All-cons (λ lba. IsElsewhere at (LeaveBlock lba)) lba lbas tt (row-tt lbas)

pub range-elsewhere : (at : ℕ) (deallocate : Bool) (range : List ℕ) → (at < start_of range) ⊎ (start_of range + blocks_of range ≤ at)
    → All (IsElsewhere at) (one_range_units deallocate range)
range-elsewhere at true range away = clears-elsewhere at (start_of range) (blocks_of range) false away
range-elsewhere at false range away = leaves-elsewhere at (range_with_len (start_of range) (blocks_of range))

-- ---- the units of a command

-- a number that is among others has what each has
pub among : (P : ℕ → Type 0) (n : ℕ) (xs : List ℕ) → All P xs → list_any (λ k. k == n) xs ≡ true → P n
among P n [] each e = cc
among P n (x ∷ xs) each e =
    (elim (x == n) as (λ b. (x == n) ≡ b → (b || list_any (λ k. k == n) xs) ≡ true → P n) [
      | true ↦ λ is any. subst P (eqb-true x n is) (All-head P x xs each)
      | false ↦ λ is any. among P n xs (All-tail P x xs each) any
    ]) refl e

-- a command with blocks has a unit for each
pub blocks-counted : (form : Form) (entry : List ℕ) → form_has_blocks form ≡ true → form_unit_count form entry ≡ count_of entry
blocks-counted (Transfer dest) entry has = refl
blocks-counted Clear entry has = refl
blocks-counted Manage entry has = cc
blocks-counted Keep entry has = cc

-- ---- on the disk

module _ (host_bytes lanes : ℕ) (geometry : Geometry) (laid : IsLaidOut host_bytes lanes geometry) (owner : ℕ) (guest : Guest)
    (given : slice_get geometry.guests owner ≡ Some guest) (entry : List ℕ) (share : Share) (is : IsPlanned guest entry share) (lane tag : ℕ) where
  sound : IsSoundWork (mapped (regions_of guest)) (shape_of guest).blocks entry is.work
  sound = end-sound (mapped (regions_of guest)) guest.limit (shape_of guest).blocks entry is.work is.verdict

  -- its physical entry
  abbrev physical : List ℕ
  physical = share_entry share guest.namespace guest entry geometry.mediator lane tag

  -- its own work
  abbrev own : Work
  own = own_work guest entry share is

  abbrev part : IsOwn guest entry is.work share
  part = own-of guest entry share is

  -- the blocks that a command names are some of the namespace's
  pub blocks-fit : has_blocks is.work.opcode ≡ true
      → (count_of entry ≤ blocks_in guest.namespace) × (slba_of entry ≤ blocks_in guest.namespace - count_of entry)
  blocks-fit has =
      let within = end-within (mapped (regions_of guest)) guest.limit (shape_of guest).blocks entry is.work is.verdict has in
      let both = and-true (nat_le (count_of entry) (blocks_in guest.namespace)) (nat_le (slba_of entry) (blocks_in guest.namespace - count_of entry)) within in
      (leb-true (count_of entry) (blocks_in guest.namespace) both.0, leb-true (slba_of entry) (blocks_in guest.namespace - count_of entry) both.1)

  -- those of its physical entry are in a row
  pub entry-row : has_blocks is.work.opcode ≡ true → IsRow guest.namespace (slba_of entry) (count_of entry) own.units
  entry-row has = part.blocks has

  -- which names them as the disk has them
  pub entry-starts : has_blocks is.work.opcode ≡ true → slba_of physical ≡ place_in guest.namespace (first_lba own.units)
  entry-starts has =
      let within = place-fits host_bytes geometry.disk_blocks (first_lba own.units) guest (laid.given owner guest given) in
      let few = laid.few_blocks in
      let list = list_page geometry.mediator lane tag in
      let bounce = bounce_page geometry.mediator lane tag in
      let fits : place_in guest.namespace (first_lba own.units) < 2 ^ 64 = omega (arith, within, few) in
      let started = λ (prps : Prps). form-start (form_of own.opcode) (opcode_of entry) tag prps guest.namespace entry own (ap has_blocks part.opcode ∙ has) fits in
      planned-kinds (λ p. slba_of (physical_entry (opcode_of entry) tag (prps_of p guest list bounce) (own_dwords p guest.namespace entry))
      ≡ place_in guest.namespace (first_lba own.units)) guest entry share is
      (started (prps_of (NoData own) guest list bounce)) (λ direct. started (prps_of (Direct own) guest list bounce))
      (started (prps_of (Bounced own) guest list bounce))

  -- each of them is where the guest's lies
  pub entry-block : (has : has_blocks is.work.opcode ≡ true) → (i : ℕ) → i < length own.units
      → slba_of physical + i ≡ place_in guest.namespace (slba_of entry + ((entry-row has).first + i))
  unfolding entry-row
  entry-block has i below =
      let row = part.blocks has in
      let none : slba_of entry + row.first ≡ slba_of entry + (row.first + 0) = omega arith in
      let first : slba_of physical ≡ row.start + 0 =
      entry-starts has ∙ ap (place_in guest.namespace) (row.lba ∙ none) ∙ row.row 0 row.some in
      let back : row.start + 0 + i ≡ row.start + i = omega arith in
      ap (λ at. at + i) first ∙ back ∙ sym (row.row i below)

  -- so they are the guest's
  pub entry-own : has_blocks is.work.opcode ≡ true → AreOwn guest.namespace (slba_of physical) (length own.units)
  entry-own has =
      let fit = blocks-fit has in
      let some = fit.0 in
      let most = fit.1 in
      let within = (entry-row has).within in
      λ i below. ap (in_extents guest.namespace) (entry-block has i below)
      ∙ place-own guest.namespace (slba_of entry + ((entry-row has).first + i)) (omega (arith, some, most, within, below))

  -- a share that is a physical command has as many units as its entry tells
  pub entry-units : is_no_command share ≡ false → form_unit_count (form_of is.work.opcode) physical ≡ own_units (form_of is.work.opcode) own
  entry-units some =
      let list = list_page geometry.mediator lane tag in
      let bounce = bounce_page geometry.mediator lane tag in
      let counts = own-counts guest entry share is some in
      let formed = ap (λ o. work_dwords (form_of o) guest.namespace entry own) part.opcode in
      let back = λ (prps : Prps). ap (λ ds. form_unit_count (form_of is.work.opcode) (physical_entry (opcode_of entry) tag prps ds)) formed
      ∙ (form-back (form_of is.work.opcode) (opcode_of entry) tag prps guest.namespace entry own counts).1 in
      planned-kinds (λ p. form_unit_count (form_of is.work.opcode) (physical_entry (opcode_of entry) tag (prps_of p guest list bounce)
      (own_dwords p guest.namespace entry)) ≡ own_units (form_of is.work.opcode) own) guest entry share is
      (back (prps_of (NoData own) guest list bounce)) (λ direct. back (prps_of (Direct own) guest list bounce)) (back (prps_of (Bounced own) guest list bounce))

  module _ (some : is_no_command share ≡ false) (h : Held) (host : ℕ → ℕ) (in_device : IsInDevice geometry guest entry share lane tag host h) (number : ℕ)
      (left : list_any (λ k. k == number) h.left ≡ true) where
    -- a unit that is left is one of the share's
    pub unit-below : number < own_units (form_of is.work.opcode) own
    unit-below =
        subst (λ n. number < n) (entry-units some)
        (among (λ k. k < form_unit_count (form_of is.work.opcode) physical) number h.left
        (subst (λ o. All (λ k. k < unit_count o physical) h.left) sound.opcode in_device.left) left)

    -- its range behind it, where it has one
    pub range-there : form_of is.work.opcode ≡ Manage → (range : List ℕ) × (slice_get own.ranges number ≡ Some range)
    range-there form =
        let few : number < length own.ranges = subst (λ f. number < own_units f own) form unit-below in
        slice_get-there own.ranges number few

    -- which lies in a row
    pub range-lies : form_of is.work.opcode ≡ Manage → (range : List ℕ) → slice_get own.ranges number ≡ Some range → IsRangeRow guest.namespace range
    range-lies form range found =
        all-at (IsRangeRow guest.namespace) own.ranges number range (part.rows form (laid.given owner guest given).small) found

    -- the device reads it as the disk has it
    pub range-read : form_of is.work.opcode ≡ Manage → (range : List ℕ) → slice_get own.ranges number ≡ Some range
        → range_at number h.pieces host ≡ translated_range guest.namespace range
    range-read form range found =
        let few : number < length own.ranges = subst (λ f. number < own_units f own) form unit-below in
        let bounced : share.plan ≡ Bounced own =
        part.plan_is ∙ ap (λ p. with_work p own) (is.whole_is ∙ ap (λ f. go_plan f (regions_of guest) is.work) form) in
        let bounce = bounce_page geometry.mediator lane tag in
        let ranges_shown : Shows host bounce (flat_map (translated_range guest.namespace) own.ranges) =
        subst (λ f. Shows host bounce (form_ranges f guest own)) (ap form_of part.opcode ∙ form)
        (subst (λ p. Shows host bounce (ranges_of p guest)) bounced in_device.pages.ranges) in
        let places : places_of h.pieces ≡ map At (range_with_len bounce (total_len own.pieces)) =
        in_device.places ∙ ap (λ p. map At (addresses_of p guest bounce)) bounced in
        let total : total_len own.pieces ≡ 16 * length own.ranges = part.total ∙ ap (λ f. own_len f own) form in
        let rest : ℕ = 16 * length own.ranges - (16 * number + 16) in
        let split : total_len own.pieces ≡ 16 * number + (16 + rest) = omega (arith, total, few) in
        ap (λ ps. gathered host (take 16 (drop (16 * number) ps))) (places ∙ ap (λ n. map At (range_with_len bounce n)) split)
        ∙ row-bytes host bounce (16 * number) rest
        ∙ shown-range guest.namespace host own.ranges number bounce range found ranges_shown

    -- so what it has of it is the range's place on the disk, and its length
    pub range-fields : form_of is.work.opcode ≡ Manage → (range : List ℕ) → slice_get own.ranges number ≡ Some range
        → (start_of (range_at number h.pieces host) ≡ range_place guest.namespace range)
        × (blocks_of (range_at number h.pieces host) ≡ blocks_of range)
    range-fields form range found =
        let within = (range-lies form range found).within in
        let is_given = laid.given owner guest given in
        let few = laid.few_blocks in
        let small = is_given.small in
        let read = range-read form range found in (
          ap start_of read
              ∙ translated-start guest.namespace range (range_place-ends host_bytes geometry.disk_blocks guest range is_given few within),
          ap blocks_of read ∙ translated-blocks guest.namespace range (omega (arith, within, small)),
        )

    -- each of its blocks is where the guest's lies
    pub range-block : form_of is.work.opcode ≡ Manage → (range : List ℕ) → slice_get own.ranges number ≡ Some range
        → (i : ℕ) → i < blocks_of range
        → start_of (range_at number h.pieces host) + i ≡ place_in guest.namespace (start_of range + i)
    range-block form range found i below =
        ap (λ at. at + i) (range-fields form range found).0 ∙ sym ((range-lies form range found).row i below)

    -- so they are the guest's
    pub range-own : form_of is.work.opcode ≡ Manage
        → AreOwn guest.namespace (start_of (range_at number h.pieces host)) (blocks_of (range_at number h.pieces host))
    range-own form =
        let range = range-there form in
        let within = (range-lies form range.0 range.1).within in
        subst (AreOwn guest.namespace (start_of (range_at number h.pieces host))) (sym (range-fields form range.0 range.1).1)
        (λ i below. ap (in_extents guest.namespace) (range-block form range.0 range.1 i below)
        ∙ place-own guest.namespace (start_of range.0 + i) (omega (arith, within, below)))
