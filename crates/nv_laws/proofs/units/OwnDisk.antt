-- The blocks that a share's physical command names on the disk, itself or in its ranges, are where its guest's lie.
use Rattle.std.proofs.Common.{◌≡◌, ℕ, zero, suc, ◌+◌, ◌-◌, ◌*◌, ◌^◌, ◌<◌, ◌≤◌, true}
use Rattle.std.proofs.Common.{◌==◌, List, [], ◌∷◌, All, drop}
use Rattle.std.proofs.Common.{flat_map, length, map, slice_get, take, Some, arith, refl, sym, ap, ◌∙◌, subst}
use Rattle.std.specs.List.{list_any, range_with_len}
use Rattle.std.proofs.lemmas.Bool.Decides.{nat_tests}
use Rattle.std.proofs.lemmas.List.Elements.{All-head, All-tail}
use Rattle.nv_entry.specs.Range.{blocks_of, start_of}
use Rattle.nv_entry.specs.Submission.{opcode_of, slba_of}
use Rattle.nv_mem.specs.Places.{At, places_of, total_len}
use Rattle.nv_model.specs.Judge.{ClearBlock, Clear, Form, Keep, Manage, MoveBlock, Transfer, Work, WorkUnit, count_of}
use Rattle.nv_model.specs.Judge.{is_fua}
use Rattle.nv_model.specs.Judge.{form_has_blocks, form_of, has_blocks, range_fits}
use Rattle.nv_model.specs.Memory.{gathered}
use Rattle.nv_ns.specs.Extents.{Namespace, blocks_in, place_in}
use Rattle.nv_prp.specs.declared.prps.Prps.{Prps}
use Rattle.nv_world_model.specs.Area.{addresses_of, bounce_page, list_page, physical_entry, prps_of, range_place, translated_range}
use Rattle.nv_world_model.specs.Device.{Held, form_unit_count, range_at, unit_count}
use Rattle.nv_world_model.specs.Geometry.{Geometry, Guest}
use Rattle.nv_world_model.specs.Plan.{Bounced, Direct, NoData, Plan}
use Rattle.nv_world_model.specs.Share.{Share}
use Rattle.nv_world_model.specs.ShareArea.{first_lba, own_dwords, share_entry, unit_lba, work_dwords}
use Rattle.nv_world_model.specs.View.{in_extents}
use Rattle.nv_laws_sound.specs.Area.{Shows, form_ranges, ranges_of}
use Rattle.nv_laws_sound.specs.Consistent.{IsInDevice}
use Rattle.nv_laws_sound.specs.LaidOut.{IsLaidOut}
use Rattle.nv_laws_sound.proofs.EntryFields.{form-back, form-start, own_units as units_counted}
use Rattle.nv_laws_sound.proofs.Lists.{slice_get-there}
use Rattle.nv_laws_sound.proofs.Namespaces.{AreOwn, place-fits, place-own, range_place-fits}
use Rattle.nv_laws_sound.proofs.OnDisk.{among, row-bytes, shown-range, translated-blocks, translated-start}
use Rattle.nv_laws_sound.proofs.OwnRows.{IsRangeRow}
use Rattle.nv_laws_sound.proofs.OwnWork.{IsRow, own_len}
use Rattle.nv_laws_sound.proofs.PlanSizes.{HasCount}
use Rattle.nv_laws.proofs.units.OwnShares.{AreUnitsOf, IsOwnShare}

-- ---- members

-- the one of a number has what all have
each-one : {X : Type 0} (P : X → Type 0) (xs : List X) (n : ℕ) (x : X) → All P xs → slice_get xs n ≡ Some x → P x
each-one P [] n x each e = cc
each-one P (y ∷ xs) zero x each e = let same : y ≡ x = cc in subst P same (All-head P y xs each)
each-one P (y ∷ xs) (suc n) x each e = each-one P xs n x (All-tail P y xs each) e

-- a command with blocks has a unit for each
counted-blocks : (form : Form) (own : Work) → form_has_blocks form ≡ true → units_counted form own ≡ length own.units
counted-blocks (Transfer dest) own has = refl
counted-blocks Clear own has = refl
counted-blocks Manage own has = cc
counted-blocks Keep own has = cc

within-fits : (blocks : ℕ) (range : List ℕ) → start_of range + blocks_of range ≤ blocks → range_fits blocks range ≡ true
within-fits blocks range within = grind (arith, nat_tests, within)

-- the first unit has the first block
first-of : (units : List WorkUnit) (unit : WorkUnit) → slice_get units 0 ≡ Some unit → first_lba units ≡ unit_lba unit
first-of [] unit e = cc
first-of (x ∷ units) unit e = let same : x ≡ unit = cc in ap unit_lba same

first-block : (form : Form) (ns : Namespace) (entry : List ℕ) (first : ℕ) (own : Work) → form_has_blocks form ≡ true → 0 < length own.units
    → AreUnitsOf form ns entry first own → first_lba own.units ≡ slba_of entry + (first + 0)
first-block (Transfer dest) ns entry first own has some units = first-of own.units (MoveBlock 0 (slba_of entry + (first + 0))) (units 0 some)
first-block Clear ns entry first own has some units = first-of own.units (ClearBlock (slba_of entry + (first + 0)) (is_fua entry)) (units 0 some)
first-block Manage ns entry first own has some units = cc
first-block Keep ns entry first own has some units = cc

-- ---- on the disk

module _ (host_bytes lanes : ℕ) (geometry : Geometry) (laid : IsLaidOut host_bytes lanes geometry) (owner : ℕ) (guest : Guest)
    (given : slice_get geometry.guests owner ≡ Some guest) (entry : List ℕ) (share : Share) (own : Work) (is : IsOwnShare guest entry share own)
    (count : HasCount (form_of own.opcode) own) (lane tag : ℕ) where
  abbrev bounce : ℕ
  bounce = bounce_page geometry.mediator lane tag

  abbrev built_of : Prps → List ℕ
  built_of prps = physical_entry (opcode_of entry) tag prps (work_dwords (form_of own.opcode) guest.namespace entry own)

  -- its physical entry is built of its own work
  pub entry-built : (P : List ℕ → Type 0) → ((prps : Prps) → P (built_of prps)) → P (share_entry share guest.namespace guest entry geometry.mediator lane tag)
  entry-built P each =
      let built = λ (p : Plan). physical_entry (opcode_of entry) tag (prps_of p guest (list_page geometry.mediator lane tag) bounce) (own_dwords p guest.namespace entry) in
      is.kinds (λ p. P (built p)) (each (prps_of (NoData own) guest (list_page geometry.mediator lane tag) bounce))
      (λ fits. each (prps_of (Direct own) guest (list_page geometry.mediator lane tag) bounce))
      (each (prps_of (Bounced own) guest (list_page geometry.mediator lane tag) bounce))

  pub few-blocks : blocks_in guest.namespace < 2 ^ 32
  few-blocks = (laid.given owner guest given).small

  -- ---- blocks

  module _ (has : has_blocks own.opcode ≡ true) where
    abbrev row : IsRow guest.namespace (slba_of entry) (count_of entry) own.units
    row = is.row has

    one-first : is.first ≡ row.first
    one-first =
        let lba = row.lba in
        let front = first-block (form_of own.opcode) guest.namespace entry is.first own has row.some is.units in
        omega (arith, lba, front)

    -- each of its blocks is one of the namespace
    pub block-below : (i : ℕ) → i < length own.units → slba_of entry + (is.first + i) < blocks_in guest.namespace
    block-below i below =
        let fit = is.fit has in
        let some = fit.0 in
        let most = fit.1 in
        let within = row.within in
        let same = one-first in
        omega (arith, some, most, within, same, below)

    -- its physical entry names them as the disk has them
    entry-starts : slba_of (share_entry share guest.namespace guest entry geometry.mediator lane tag) ≡ row.start
    entry-starts =
        let within = place-fits host_bytes geometry.disk_blocks (first_lba own.units) guest (laid.given owner guest given) in
        let few = laid.few_blocks in
        let fits : place_in guest.namespace (first_lba own.units) < 2 ^ 64 = omega (arith, within, few) in
        let none : slba_of entry + row.first ≡ slba_of entry + (row.first + 0) = omega arith in
        entry-built (λ e. slba_of e ≡ place_in guest.namespace (first_lba own.units))
        (λ prps. form-start (form_of own.opcode) (opcode_of entry) tag prps guest.namespace entry own has fits)
        ∙ ap (place_in guest.namespace) (row.lba ∙ none) ∙ row.row 0 row.some ∙ omega arith

    -- each of them is where the guest's lies
    pub entry-block : (i : ℕ) → i < length own.units
        → slba_of (share_entry share guest.namespace guest entry geometry.mediator lane tag) + i ≡ place_in guest.namespace (slba_of entry + (is.first + i))
    entry-block i below =
        ap (λ at. at + i) entry-starts ∙ sym (row.row i below) ∙ ap (λ f. place_in guest.namespace (slba_of entry + (f + i))) (sym one-first)

    -- so they are the guest's
    pub entry-own : AreOwn guest.namespace (slba_of (share_entry share guest.namespace guest entry geometry.mediator lane tag)) (length own.units)
    entry-own i below =
        ap (in_extents guest.namespace) (entry-block i below) ∙ place-own guest.namespace (slba_of entry + (is.first + i)) (block-below i below)

  -- ---- units that are left

  module _ (h : Held) (host : ℕ → ℕ) (in_device : IsInDevice geometry guest entry share lane tag host h) (number : ℕ)
      (left : list_any (λ k. k == number) h.left ≡ true) where
    -- one of them is one of the work's
    pub unit-below : number < units_counted (form_of own.opcode) own
    unit-below =
        let few : number < form_unit_count (form_of own.opcode) (share_entry share guest.namespace guest entry geometry.mediator lane tag) =
        among (λ k. k < form_unit_count (form_of own.opcode) (share_entry share guest.namespace guest entry geometry.mediator lane tag)) number h.left
        (subst (λ o. All (λ k. k < unit_count o (share_entry share guest.namespace guest entry geometry.mediator lane tag)) h.left) is.opcode in_device.left) left in
        subst (λ n. number < n)
        (entry-built (λ e. form_unit_count (form_of own.opcode) e ≡ units_counted (form_of own.opcode) own)
        (λ prps. (form-back (form_of own.opcode) (opcode_of entry) tag prps guest.namespace entry own count).1)) few

    pub unit-below_blocks : has_blocks own.opcode ≡ true → number < length own.units
    unit-below_blocks has = subst (λ n. number < n) (counted-blocks (form_of own.opcode) own has) unit-below

    module _ (form : form_of own.opcode ≡ Manage) where
      -- the range behind it
      pub range-there : (range : List ℕ) × (slice_get own.ranges number ≡ Some range)
      range-there = slice_get-there own.ranges number (subst (λ f. number < units_counted f own) form unit-below)

      module _ (range : List ℕ) (found : slice_get own.ranges number ≡ Some range) where
        -- whose blocks lie in a row
        pub range-row : IsRangeRow guest.namespace range
        range-row = each-one (IsRangeRow guest.namespace) own.ranges number range (is.ranges form few-blocks) found

        -- the device reads it as the disk has it
        range-read : range_at number h.pieces host ≡ translated_range guest.namespace range
        range-read =
            let few : number < length own.ranges = subst (λ f. number < units_counted f own) form unit-below in
            let bounced : share.plan ≡ Bounced own = is.managed form in
            let ranges_shown : Shows host bounce (flat_map (translated_range guest.namespace) own.ranges) =
            subst (λ f. Shows host bounce (form_ranges f guest own)) form
            (subst (λ p. Shows host bounce (ranges_of p guest)) bounced in_device.pages.ranges) in
            let places : places_of h.pieces ≡ map At (range_with_len bounce (total_len own.pieces)) =
            in_device.places ∙ ap (λ p. map At (addresses_of p guest bounce)) bounced in
            let total : total_len own.pieces ≡ 16 * length own.ranges = is.total ∙ ap (λ f. own_len f own) form in
            let rest : ℕ = 16 * length own.ranges - (16 * number + 16) in
            let split : total_len own.pieces ≡ 16 * number + (16 + rest) = omega (arith, total, few) in
            ap (λ ps. gathered host (take 16 (drop (16 * number) ps))) (places ∙ ap (λ n. map At (range_with_len bounce n)) split)
            ∙ row-bytes host bounce (16 * number) rest
            ∙ shown-range guest.namespace host own.ranges number bounce range found ranges_shown

        -- so what it has of it is the range's place on the disk, and its length
        pub range-fields : (start_of (range_at number h.pieces host) ≡ range_place guest.namespace range)
            × (blocks_of (range_at number h.pieces host) ≡ blocks_of range)
        range-fields =
            let within = range-row.within in
            let small = few-blocks in
            let fits = within-fits (blocks_in guest.namespace) range within in
            let is_given = laid.given owner guest given in (
              ap start_of range-read
                  ∙ translated-start guest.namespace range (range_place-fits host_bytes geometry.disk_blocks guest range is_given laid.few_blocks fits),
              ap blocks_of range-read ∙ translated-blocks guest.namespace range (omega (arith, within, small)),
            )

        -- each of its blocks is where the guest's lies
        pub range-block : (i : ℕ) → i < blocks_of range
            → start_of (range_at number h.pieces host) + i ≡ place_in guest.namespace (start_of range + i)
        range-block i below = ap (λ at. at + i) range-fields.0 ∙ sym (range-row.row i below)

      -- so they are the guest's
      pub range-own : AreOwn guest.namespace (start_of (range_at number h.pieces host)) (blocks_of (range_at number h.pieces host))
      range-own =
          let range = range-there in
          let within = (range-row range.0 range.1).within in
          subst (AreOwn guest.namespace (start_of (range_at number h.pieces host))) (sym (range-fields range.0 range.1).1)
          (λ i below. ap (in_extents guest.namespace) (range-block range.0 range.1 i below)
          ∙ place-own guest.namespace (start_of range.0 + i) (omega (arith, within, below)))
