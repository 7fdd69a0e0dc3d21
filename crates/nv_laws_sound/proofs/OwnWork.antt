-- What a share's own work is: blocks in a row in one extent, with their bytes, or ranges of which each lies in one.
use Rattle.std.proofs.Common.{◌≡◌, ℕ, ◌+◌, ◌-◌, ◌*◌, ◌^◌, ◌<◌, ◌≤◌, Bool, true, false, List, [], length, map}
use Rattle.std.proofs.Common.{refl, sym, subst, arith}
use Rattle.std.specs.List.{All, Contains, enumerate_from, list_all, range_with_len}
use Rattle.std.proofs.lemmas.List.Elements.{All-cons, All-contains, All-contains_itself, All-map, All-nil, All-weaker}
use Rattle.nv_entry.specs.Submission.{slba_of}
use Rattle.nv_mem.specs.GuestMap.{mapped}
use Rattle.nv_mem.specs.Places.{total_len}
use Rattle.nv_ns.specs.Extents.{Cut, Namespace, Placed, blocks_in, cuts, place_in, placed}
use Rattle.nv_ns.specs.Laws.{NamesBlocks}
use Rattle.nv_ns.proofs.Spelled.{cuts-name, cuts-some}
use Rattle.nv_model.specs.Judge.{Clear, Form, Keep, Manage, Transfer, Work, WorkUnit, count_of}
use Rattle.nv_model.specs.Judge.{form_has_blocks, form_of}
use Rattle.nv_model.specs.Judge.{form_transfer_len, form_units, is_fua, range_count_of, range_fits}
use Rattle.nv_model.specs.Laws.{IsMappedPiece}
use Rattle.nv_model.specs.Limits.{block, range_size}
use Rattle.nv_model.proofs.AnyAnswers.{end-sound}
use Rattle.nv_prp.specs.Fits.{places_fit}
use Rattle.nv_world_model.specs.Geometry.{Guest, regions_of, shape_of}
use Rattle.nv_world_model.specs.Plan.{Bounced, Direct, NoData, Plan, go_plan, transfer_plan}
use Rattle.nv_world_model.specs.Share.{Share, block_share, cut_pieces, numbers_met, range_share, ranges_met, shares_by, shares_of}
use Rattle.nv_world_model.specs.Share.{units_at, whole_share, with_work}
use Rattle.nv_world_model.specs.ShareArea.{first_lba}
use Rattle.nv_world_model.proofs.CutFits.{cut_pieces-fit}
use Rattle.nv_world_model.proofs.CutPieces.{cut-total, cut_pieces-mapped}
use Rattle.nv_world_model.proofs.RangeCuts.{ranges_met-few}
use Rattle.nv_world_model.proofs.ShareParts.{run_work}
use Rattle.nv_world_model.proofs.ShareUnits.{IsFrom, clears-from, moves-from, units_at-lba, units-size}
use Rattle.nv_laws_sound.specs.Consistent.{IsPlanned}
use Rattle.nv_laws_sound.proofs.OwnRows.{IsRangeRow, enumerated-all, ranges-rows}

-- ---- what it is

-- units of as many blocks, from so many behind the first of the run on, which lie in a row on the disk
pub record IsRow (ns : Namespace) (slba count : ℕ) (units : List WorkUnit) : Type 0 where
  pub first : ℕ
  pub start : ℕ
  pub some : 0 < length units
  pub within : first + length units ≤ count
  pub lba : first_lba units ≡ slba + first
  pub row : (i : ℕ) → i < length units → place_in ns (slba + (first + i)) ≡ start + i

-- the bytes of its buffer
abbrev pub own_len : Form → Work → ℕ
own_len (Transfer dest) own = block * length own.units
own_len Clear own = 0
own_len Manage own = range_size * length own.ranges
own_len Keep own = 0

-- a share's own work, of a command of that form whose whole work that is
pub record IsOwnBy (form : Form) (guest : Guest) (entry : List ℕ) (work : Work) (share : Share) : Type 0 where
  pub own : Work
  pub plan_is : share.plan ≡ with_work share.whole own
  pub opcode : own.opcode ≡ work.opcode
  pub fits : 0 < total_len work.pieces → form_has_blocks form ≡ true → places_fit (regions_of guest) work.pieces ≡ true
      → places_fit (regions_of guest) own.pieces ≡ true
  pub mapped_each : All (IsMappedPiece (mapped (regions_of guest))) own.pieces
  pub total : total_len own.pieces ≡ own_len form own
  pub short : own_len form own ≤ form_transfer_len form entry
  pub blocks : form_has_blocks form ≡ true → IsRow guest.namespace (slba_of entry) (count_of entry) own.units
  pub rows : form ≡ Manage → blocks_in guest.namespace < 2 ^ 32 → All (IsRangeRow guest.namespace) own.ranges
  pub few : form ≡ Manage → length own.ranges ≤ range_count_of entry

abbrev pub IsOwn : Guest → (entry : List ℕ) → Work → Share → Type 0
IsOwn guest entry work share = IsOwnBy (form_of work.opcode) guest entry work share

-- ---- units

run-row : (ns : Namespace) (slba count : ℕ) (cut : Cut) (units : List WorkUnit) → NamesBlocks ns slba count cut → 0 < cut.count
    → IsFrom slba count units → IsRow ns slba count (units_at cut.first units (range_with_len cut.first cut.count))
run-row ns slba count cut units names some from =
    let within = names.0 in
    let all = from.size in
    let size = units-size cut.first cut.count units (omega (arith, within, all)) in
    let head = from.at cut.first (omega (arith, within, some)) in
    record {
      first = cut.first;
      start = cut.start;
      some = omega (arith, size, some);
      within = omega (arith, size, within);
      lba = units_at-lba cut.first cut.count (slba + cut.first) units head.0 some head.1.0 head.1.1;
      row = (λ i below. names.1 i (omega (arith, below, size)));
    }

-- ---- a run of blocks

-- what is known of the whole work of a command of that form
record IsSound (form : Form) (guest : Guest) (entry : List ℕ) (work : Work) : Type 0 where
  pub each : All (IsMappedPiece (mapped (regions_of guest))) work.pieces
  pub total : total_len work.pieces ≡ form_transfer_len form entry
  pub units : work.units ≡ form_units form (blocks_in guest.namespace) entry work.ranges
  pub fit : list_all (range_fits (blocks_in guest.namespace)) work.ranges ≡ true
  pub counted : form ≡ Manage → length work.ranges ≡ range_count_of entry

-- no command of that form
other-form : (dest : Bool) {A : Type 0} → Transfer dest ≡ Manage → A
other-form dest bad = cc

clear-form : {A : Type 0} → Clear ≡ Manage → A
clear-form bad = cc

keep-form : {A : Type 0} → Keep ≡ Manage → A
keep-form bad = cc

move-own : (dest : Bool) (guest : Guest) (entry : List ℕ) (plan : Plan) (work : Work) (cut : Cut) → IsSound (Transfer dest) guest entry work
    → NamesBlocks guest.namespace (slba_of entry) (count_of entry) cut → 0 < cut.count
    → IsOwnBy (Transfer dest) guest entry work (block_share plan work cut)
move-own dest guest entry plan work cut sound names some =
    let within = names.0 in
    let from = moves-from (slba_of entry) (count_of entry) work.units sound.units in
    let all = from.size in
    let size = units-size cut.first cut.count work.units (omega (arith, within, all)) in
    let total = sound.total in
    let bytes = cut-total (block * cut.first) (block * cut.count) work.pieces in
    record {
      own = run_work work cut.first cut.count;
      plan_is = refl;
      opcode = refl;
      fits = (λ any has fits. cut_pieces-fit (regions_of guest) (block * cut.first) (block * cut.count) work.pieces sound.each fits
          (omega arith) (omega (arith, total, within, some)) (omega (arith, some)));
      mapped_each = cut_pieces-mapped (mapped (regions_of guest)) (block * cut.first) (block * cut.count) work.pieces sound.each;
      total = omega (arith, bytes, total, within, size);
      short = omega (arith, size, within);
      blocks = (λ has. run-row guest.namespace (slba_of entry) (count_of entry) cut work.units names some from);
      rows = (λ bad. other-form dest bad);
      few = (λ bad. other-form dest bad);
    }

clear-own : (guest : Guest) (entry : List ℕ) (plan : Plan) (work : Work) (cut : Cut) → IsSound Clear guest entry work
    → NamesBlocks guest.namespace (slba_of entry) (count_of entry) cut → 0 < cut.count
    → IsOwnBy Clear guest entry work (block_share plan work cut)
clear-own guest entry plan work cut sound names some =
    let total = sound.total in
    let bytes = cut-total (block * cut.first) (block * cut.count) work.pieces in
    record {
      own = run_work work cut.first cut.count;
      plan_is = refl;
      opcode = refl;
      fits = (λ any has fits. absurd (omega (arith, any, total)));
      mapped_each = cut_pieces-mapped (mapped (regions_of guest)) (block * cut.first) (block * cut.count) work.pieces sound.each;
      total = omega (arith, bytes, total);
      short = omega arith;
      blocks = (λ has. run-row guest.namespace (slba_of entry) (count_of entry) cut work.units names some
          (clears-from (is_fua entry) (slba_of entry) (count_of entry) work.units sound.units));
      rows = (λ bad. clear-form bad);
      few = (λ bad. clear-form bad);
    }

-- of all cuts
pub run-shares : (Q : Share → Type 0) (guest : Guest) (entry : List ℕ) (plan : Plan) (work : Work)
    → ((cut : Cut) → NamesBlocks guest.namespace (slba_of entry) (count_of entry) cut → 0 < cut.count → Q (block_share plan work cut))
    → All Q (map (block_share plan work) (cuts guest.namespace (slba_of entry) (count_of entry)))
run-shares Q guest entry plan work each =
    let ns = guest.namespace in
    let all : List Cut = cuts ns (slba_of entry) (count_of entry) in
    let some : All (λ (cut : Cut). 0 < cut.count) all = cuts-some ns (slba_of entry) (count_of entry) in
    All-map Q (block_share plan work) all
    (All-weaker (Contains all) (λ cut. Q (block_share plan work cut))
    (λ cut among. each cut
    (All-contains (NamesBlocks ns (slba_of entry) (count_of entry)) all cut (cuts-name ns (slba_of entry) (count_of entry)) among)
    (All-contains (λ (x : Cut). 0 < x.count) all cut some among))
    all (All-contains_itself all))

-- ---- ranges

range-own : (guest : Guest) (entry : List ℕ) (plan : Plan) (work : Work) (number : ℕ) (at : Placed) → IsSound Manage guest entry work
    → Contains (placed 0 guest.namespace) at → IsOwnBy Manage guest entry work (range_share plan work number at)
range-own guest entry plan work number at sound among =
    let ranges : List (List ℕ) = ranges_met number at work.ranges in
    let own : Work = record work {
      pieces = cut_pieces 0 (range_size * length ranges) work.pieces;
      ranges = ranges;
      units = units_at 0 work.units (numbers_met 0 at work.ranges);
    } in
    let total = sound.total in
    let counted = sound.counted refl in
    let few = ranges_met-few number at work.ranges in
    let bytes = cut-total 0 (range_size * length ranges) work.pieces in
    record {
      own = own;
      plan_is = refl;
      opcode = refl;
      fits = (λ any has fits. no-blocks has);
      mapped_each = cut_pieces-mapped (mapped (regions_of guest)) 0 (range_size * length ranges) work.pieces sound.each;
      total = omega (arith, bytes, total, counted, few);
      short = omega (arith, counted, few);
      blocks = (λ has. no-blocks has);
      rows = (λ same small. ranges-rows guest.namespace number at work.ranges among sound.fit small);
      few = (λ same. omega (arith, counted, few));
    }
  where
    no-blocks : {A : Type 0} → false ≡ true → A
    no-blocks bad = cc

range-shares : (guest : Guest) (entry : List ℕ) (plan : Plan) (work : Work) → IsSound Manage guest entry work
    → All (IsOwnBy Manage guest entry work) (map (λ p. range_share plan work p.0 p.1) (enumerate_from 0 (placed 0 guest.namespace)))
range-shares guest entry plan work sound =
    let ats : List Placed = placed 0 guest.namespace in
    All-map (IsOwnBy Manage guest entry work) (λ p. range_share plan work p.0 p.1) (enumerate_from 0 ats)
    (All-weaker (λ p. Contains ats p.1) (λ p. IsOwnBy Manage guest entry work (range_share plan work p.0 p.1))
    (λ p among. range-own guest entry plan work p.0 p.1 sound among)
    (enumerate_from 0 ats) (enumerated-all (Contains ats) 0 ats (All-contains_itself ats)))

-- ---- every form

keep-own : (guest : Guest) (entry : List ℕ) (plan : Plan) (work : Work) → IsSound Keep guest entry work → with_work plan work ≡ plan
    → IsOwnBy Keep guest entry work (whole_share plan work)
keep-own guest entry plan work sound same =
    let total = sound.total in
    record {
      own = work;
      plan_is = sym same;
      opcode = refl;
      fits = (λ any has fits. fits);
      mapped_each = sound.each;
      total = total;
      short = omega arith;
      blocks = (λ has. no-blocks has);
      rows = (λ bad. keep-form bad);
      few = (λ bad. keep-form bad);
    }
  where
    no-blocks : {A : Type 0} → false ≡ true → A
    no-blocks bad = cc

shares-own : (form : Form) (guest : Guest) (entry : List ℕ) (plan : Plan) (work : Work) → IsSound form guest entry work
    → with_work plan work ≡ plan → All (IsOwnBy form guest entry work) (shares_by form guest.namespace entry plan work)
shares-own (Transfer dest) guest entry plan work sound same =
    run-shares (IsOwnBy (Transfer dest) guest entry work) guest entry plan work
    (λ cut names some. move-own dest guest entry plan work cut sound names some)
shares-own Clear guest entry plan work sound same =
    run-shares (IsOwnBy Clear guest entry work) guest entry plan work (λ cut names some. clear-own guest entry plan work cut sound names some)
shares-own Manage guest entry plan work sound same = range-shares guest entry plan work sound
shares-own Keep guest entry plan work sound same =
    All-cons (IsOwnBy Keep guest entry work) (whole_share plan work) [] (keep-own guest entry plan work sound same)
    (All-nil (IsOwnBy Keep guest entry work))

go-own : (form : Form) (guest : Guest) (entry : List ℕ) (work : Work) → IsSound (form_of work.opcode) guest entry work
    → All (IsOwn guest entry work) (shares_of guest.namespace entry (go_plan form (regions_of guest) work))
go-own (Transfer dest) guest entry work sound =
    elim (places_fit (regions_of guest) work.pieces) as (λ b. All (IsOwn guest entry work) (shares_of guest.namespace entry (transfer_plan b work))) [
      | true ↦ shares-own (form_of work.opcode) guest entry (Direct work) work sound refl
      | false ↦ shares-own (form_of work.opcode) guest entry (Bounced work) work sound refl
    ]
go-own Clear guest entry work sound = shares-own (form_of work.opcode) guest entry (NoData work) work sound refl
go-own Manage guest entry work sound = shares-own (form_of work.opcode) guest entry (Bounced work) work sound refl
go-own Keep guest entry work sound = shares-own (form_of work.opcode) guest entry (NoData work) work sound refl

-- a share of a plan is such a part
pub own-of : (guest : Guest) (entry : List ℕ) (share : Share) (is : IsPlanned guest entry share) → IsOwn guest entry is.work share
own-of guest entry share is =
    let sound = end-sound (mapped (regions_of guest)) guest.limit (shape_of guest).blocks entry is.work is.verdict in
    All-contains (IsOwn guest entry is.work) (shares_of guest.namespace entry share.whole) share
    (subst (λ p. All (IsOwn guest entry is.work) (shares_of guest.namespace entry p)) (sym is.whole_is)
    (go-own (form_of is.work.opcode) guest entry is.work
    (record { each = sound.mapped_each; total = sound.total; units = sound.units; fit = sound.fit; counted = sound.counted }))) is.is_share
