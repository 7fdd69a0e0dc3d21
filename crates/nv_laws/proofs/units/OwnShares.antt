-- What a share's own work is to the device: its plan, its pieces, its units, and the fields that its physical entry has.
use Rattle.std.proofs.Common.{◌≡◌, ℕ, ◌+◌, ◌-◌, ◌*◌, ◌^◌, ◌<◌, ◌≤◌, Bool, true, false, ◌&&◌, List, []}
use Rattle.std.proofs.Common.{◌∷◌, drop, length, map, slice_get, take, Some}
use Rattle.std.proofs.Common.{refl, ap, sym, ◌∙◌, subst, arith, leb-true, nat_le}
use Rattle.std.specs.List.{All, Contains, enumerate_from, range_with_len}
use Rattle.std.proofs.lemmas.List.{take_all}
use Rattle.std.proofs.lemmas.List.Elements.{All-cons, All-contains, All-contains_itself, All-map, All-nil, All-weaker}
use Rattle.nv_entry.specs.Opcode.{io_opcode}
use Rattle.nv_entry.specs.Submission.{opcode_of, slba_of}
use Rattle.nv_mem.specs.GuestMap.{mapped}
use Rattle.nv_mem.specs.Places.{places_of, total_len}
use Rattle.nv_mem.specs.declared.region.Region.{Region}
use Rattle.nv_ns.specs.Extents.{Cut, Namespace, Placed, blocks_in, placed}
use Rattle.nv_ns.specs.Laws.{NamesBlocks}
use Rattle.nv_model.specs.Judge.{ClearBlock, Clear, Form, KeepAll, Keep, Manage, MoveBlock, Transfer, Work, count_of, deallocates}
use Rattle.nv_model.specs.Judge.{form_of, form_units, has_blocks, is_fua, range_units}
use Rattle.nv_model.specs.Laws.{IsMappedPiece}
use Rattle.nv_model.specs.Limits.{block, most_bytes, range_size}
use Rattle.nv_model.specs.Private.{places_of_block}
use Rattle.nv_model.proofs.AnyAnswers.{end-sound, end-within}
use Rattle.nv_model.proofs.Endings.{and-true}
use Rattle.nv_model.proofs.Judged.{IsSoundWork}
use Rattle.nv_model.proofs.Units.{clear_units-at, length-clear_units, length-move_units, move_units-at}
use Rattle.nv_prp.specs.Fits.{places_fit}
use Rattle.nv_world_model.specs.Geometry.{Guest, regions_of, shape_of}
use Rattle.nv_world_model.specs.Plan.{Bounced, Direct, NoData, Plan, go_plan, transfer_plan}
use Rattle.nv_world_model.specs.Share.{Share, block_share, numbers_met, range_share, ranges_met, shares_by, shares_of}
use Rattle.nv_world_model.specs.Share.{cut_pieces, unit_behind, units_at, whole_share, with_work}
use Rattle.nv_world_model.proofs.ShareParts.{range-get, run_work, window-window}
use Rattle.nv_world_model.proofs.CutPieces.{places_of-cut_pieces}
use Rattle.nv_world_model.proofs.OwnUnits.{FitsFields-small, units_at-met}
use Rattle.nv_world_model.proofs.ShareUnits.{units-get, units-size}
use Rattle.nv_world_model.proofs.Windows.{window}
use Rattle.nv_world_model.specs.ShareArea.{is_no_command}
use Rattle.nv_world_model.specs.Seat.{work_of}
use Rattle.nv_laws_sound.specs.Consistent.{IsPlanned}
use Rattle.nv_laws_sound.proofs.OwnRows.{IsRangeRow, enumerated-all}
use Rattle.nv_laws_sound.proofs.OwnWork.{IsRow, own-of, own_len, run-shares}
use Rattle.nv_laws_sound.proofs.PlanSizes.{HasCount, go_plan-kinds, own-counts, own-few, own_work, planned-kinds}
use Rattle.nv_laws.proofs.units.Flags.{end-fua}
use Rattle.nv_laws.proofs.units.Growing.{met-grow, row-grow}
use Rattle.nv_laws.proofs.units.Runs.{Grow}

-- ---- its units

-- those of a command of that form, of which the first blocks are others'
abbrev pub AreUnitsOf : Form → Namespace → (entry : List ℕ) → (first : ℕ) → Work → Type 0
AreUnitsOf (Transfer dest) ns entry first own =
    (k : ℕ) → k < length own.units → slice_get own.units k ≡ Some (MoveBlock k (slba_of entry + (first + k)))
AreUnitsOf Clear ns entry first own =
    (k : ℕ) → k < length own.units → slice_get own.units k ≡ Some (ClearBlock (slba_of entry + (first + k)) (is_fua entry))
AreUnitsOf Manage ns entry first own = blocks_in ns < 2 ^ 32 → own.units ≡ range_units (deallocates entry) own.ranges
AreUnitsOf Keep ns entry first own = own.units ≡ KeepAll (blocks_in ns) ∷ []

-- what is cut out of a work of that form
pub record IsCutOf (form : Form) (guest : Guest) (entry : List ℕ) (work : Work) (share : Share) : Type 0 where
  pub own : Work
  pub plan_is : share.plan ≡ with_work share.whole own
  pub fua : own.fua ≡ work.fua
  pub grow : Grow share.numbers
  pub skip : ℕ
  pub len : ℕ
  pub pieces : places_of own.pieces ≡ window skip len (places_of work.pieces)
  pub blocks : (dest : Bool) → form ≡ Transfer dest → (k n : ℕ) → slice_get share.numbers k ≡ Some n
      → places_of_block own k ≡ places_of_block work n
  pub first : ℕ
  pub units : AreUnitsOf form guest.namespace entry first own

-- a block of what is cut out lies where it lay
cut-blocks : (work : Work) (cut : Cut) (k n : ℕ) → slice_get (range_with_len cut.first cut.count) k ≡ Some n
    → places_of_block (run_work work cut.first cut.count) k ≡ places_of_block work n
cut-blocks work cut k n is =
    let at = range-get cut.first cut.count k n is in
    let few = at.0 in
    let same = at.1 in
    let on : block * cut.first + block * k ≡ block * n = omega (arith, same) in
    ap (λ places. take block (drop (block * k) places)) (places_of-cut_pieces (block * cut.first) (block * cut.count) work.pieces)
    ∙ window-window (block * k) block (block * cut.first) (block * cut.count) (places_of work.pieces) (omega (arith, few))
    ∙ ap (λ m. take block (drop m (places_of work.pieces))) on

-- a unit that moves a block
picked-move : (first k lba : ℕ) → unit_behind first (MoveBlock (first + k) lba) ≡ MoveBlock k lba
picked-move first k lba = let back : first + k - first ≡ k = omega arith in ap (λ (n : ℕ). MoveBlock n lba) back

no-transfer : (dest : Bool) {A : Type 0} → Manage ≡ Transfer dest → A
no-transfer dest bad = cc

keep-transfer : (dest : Bool) {A : Type 0} → Keep ≡ Transfer dest → A
keep-transfer dest bad = cc

move-cut : (dest : Bool) (guest : Guest) (entry : List ℕ) (plan : Plan) (work : Work) (cut : Cut)
    → work.units ≡ form_units (Transfer dest) (blocks_in guest.namespace) entry work.ranges
    → NamesBlocks guest.namespace (slba_of entry) (count_of entry) cut → 0 < cut.count
    → IsCutOf (Transfer dest) guest entry work (block_share plan work cut)
move-cut dest guest entry plan work cut units names some =
    let within = names.0 in
    let all : length work.units ≡ count_of entry = ap length units ∙ length-move_units (slba_of entry) (count_of entry) in
    let size = units-size cut.first cut.count work.units (omega (arith, all, within)) in
    record {
      own = run_work work cut.first cut.count;
      plan_is = refl;
      fua = refl;
      grow = row-grow cut.count cut.first;
      skip = block * cut.first;
      len = block * cut.count;
      pieces = places_of-cut_pieces (block * cut.first) (block * cut.count) work.pieces;
      blocks = (λ is_dest form k n is. cut-blocks work cut k n is);
      first = cut.first;
      units = (λ k below.
          (let few : k < cut.count = omega (arith, below, size) in
          units-get cut.first cut.count k work.units (MoveBlock (cut.first + k) (slba_of entry + (cut.first + k))) few (omega (arith, all, within))
          (ap (λ us. slice_get us (cut.first + k)) units ∙ move_units-at (slba_of entry) (count_of entry) (cut.first + k) (omega (arith, few, within)))
          ∙ ap Some (picked-move cut.first k (slba_of entry + (cut.first + k)))));
    }

clear-cut : (guest : Guest) (entry : List ℕ) (plan : Plan) (work : Work) (cut : Cut)
    → work.units ≡ form_units Clear (blocks_in guest.namespace) entry work.ranges
    → NamesBlocks guest.namespace (slba_of entry) (count_of entry) cut → 0 < cut.count
    → IsCutOf Clear guest entry work (block_share plan work cut)
clear-cut guest entry plan work cut units names some =
    let within = names.0 in
    let all : length work.units ≡ count_of entry = ap length units ∙ length-clear_units (is_fua entry) (slba_of entry) (count_of entry) in
    let size = units-size cut.first cut.count work.units (omega (arith, all, within)) in
    record {
      own = run_work work cut.first cut.count;
      plan_is = refl;
      fua = refl;
      grow = row-grow cut.count cut.first;
      skip = block * cut.first;
      len = block * cut.count;
      pieces = places_of-cut_pieces (block * cut.first) (block * cut.count) work.pieces;
      blocks = (λ is_dest form k n is. cut-blocks work cut k n is);
      first = cut.first;
      units = (λ k below.
          (let few : k < cut.count = omega (arith, below, size) in
          units-get cut.first cut.count k work.units (ClearBlock (slba_of entry + (cut.first + k)) (is_fua entry)) few (omega (arith, all, within))
          (ap (λ us. slice_get us (cut.first + k)) units
          ∙ clear_units-at (is_fua entry) (slba_of entry) (count_of entry) (cut.first + k) (omega (arith, few, within)))));
    }

range-cut : (guest : Guest) (entry : List ℕ) (plan : Plan) (work : Work) (number : ℕ) (at : Placed)
    → IsSoundWork (mapped (regions_of guest)) (blocks_in guest.namespace) entry work → form_of work.opcode ≡ Manage
    → Contains (placed 0 guest.namespace) at → IsCutOf Manage guest entry work (range_share plan work number at)
unfolding range_units
range-cut guest entry plan work number at sound form among =
    let ranges : List (List ℕ) = ranges_met number at work.ranges in
    let units : work.units ≡ range_units (deallocates entry) work.ranges =
    sound.units ∙ ap (λ f. form_units f (blocks_in guest.namespace) entry work.ranges) form in
    record {
      own = record work {
        pieces = cut_pieces 0 (range_size * length ranges) work.pieces;
        ranges = ranges;
        units = units_at 0 work.units (numbers_met 0 at work.ranges);
      };
      plan_is = refl;
      fua = refl;
      grow = met-grow 0 at work.ranges;
      skip = 0;
      len = range_size * length ranges;
      pieces = places_of-cut_pieces 0 (range_size * length ranges) work.pieces;
      blocks = (λ dest bad k n is. no-transfer dest bad);
      first = 0;
      units = (λ small.
          ap (λ us. units_at 0 us (numbers_met 0 at work.ranges)) units
          ∙ units_at-met (deallocates entry) number at work.ranges
          (FitsFields-small (blocks_in guest.namespace) work.ranges (omega (arith, small)) sound.fit));
    }

range-cuts : (guest : Guest) (entry : List ℕ) (plan : Plan) (work : Work)
    → IsSoundWork (mapped (regions_of guest)) (blocks_in guest.namespace) entry work → form_of work.opcode ≡ Manage
    → All (IsCutOf Manage guest entry work) (map (λ p. range_share plan work p.0 p.1) (enumerate_from 0 (placed 0 guest.namespace)))
range-cuts guest entry plan work sound form =
    let ats : List Placed = placed 0 guest.namespace in
    All-map (IsCutOf Manage guest entry work) (λ p. range_share plan work p.0 p.1) (enumerate_from 0 ats)
    (All-weaker (λ p. Contains ats p.1) (λ p. IsCutOf Manage guest entry work (range_share plan work p.0 p.1))
    (λ p among. range-cut guest entry plan work p.0 p.1 sound form among)
    (enumerate_from 0 ats) (enumerated-all (Contains ats) 0 ats (All-contains_itself ats)))

-- ---- of every form

shares-cut : (form : Form) (guest : Guest) (entry : List ℕ) (plan : Plan) (work : Work)
    → IsSoundWork (mapped (regions_of guest)) (blocks_in guest.namespace) entry work → form_of work.opcode ≡ form
    → with_work plan work ≡ plan → All (IsCutOf form guest entry work) (shares_by form guest.namespace entry plan work)
shares-cut (Transfer dest) guest entry plan work sound form same =
    run-shares (IsCutOf (Transfer dest) guest entry work) guest entry plan work
    (λ cut names some. move-cut dest guest entry plan work cut
    (sound.units ∙ ap (λ f. form_units f (blocks_in guest.namespace) entry work.ranges) form) names some)
shares-cut Clear guest entry plan work sound form same =
    run-shares (IsCutOf Clear guest entry work) guest entry plan work
    (λ cut names some. clear-cut guest entry plan work cut
    (sound.units ∙ ap (λ f. form_units f (blocks_in guest.namespace) entry work.ranges) form) names some)
shares-cut Manage guest entry plan work sound form same = range-cuts guest entry plan work sound form
shares-cut Keep guest entry plan work sound form same =
    All-cons (IsCutOf Keep guest entry work) (whole_share plan work) []
    (record {
      own = work;
      plan_is = sym same;
      fua = refl;
      grow = row-grow (length work.units) 0;
      skip = 0;
      len = length (places_of work.pieces);
      pieces = sym (take_all (length (places_of work.pieces)) (places_of work.pieces) (omega arith));
      blocks = (λ dest bad k n is. keep-transfer dest bad);
      first = 0;
      units = sound.units ∙ ap (λ f. form_units f (blocks_in guest.namespace) entry work.ranges) form;
    })
    (All-nil (IsCutOf Keep guest entry work))

go-cut : (form : Form) (guest : Guest) (entry : List ℕ) (work : Work) → IsSoundWork (mapped (regions_of guest)) (blocks_in guest.namespace) entry work
    → All (IsCutOf (form_of work.opcode) guest entry work) (shares_of guest.namespace entry (go_plan form (regions_of guest) work))
go-cut (Transfer dest) guest entry work sound =
    elim (places_fit (regions_of guest) work.pieces) as
    (λ b. All (IsCutOf (form_of work.opcode) guest entry work) (shares_of guest.namespace entry (transfer_plan b work))) [
      | true ↦ shares-cut (form_of work.opcode) guest entry (Direct work) work sound refl refl
      | false ↦ shares-cut (form_of work.opcode) guest entry (Bounced work) work sound refl refl
    ]
go-cut Clear guest entry work sound = shares-cut (form_of work.opcode) guest entry (NoData work) work sound refl refl
go-cut Manage guest entry work sound = shares-cut (form_of work.opcode) guest entry (Bounced work) work sound refl refl
go-cut Keep guest entry work sound = shares-cut (form_of work.opcode) guest entry (NoData work) work sound refl refl

-- ---- a share that is planned

-- the work of a plan of the same kind
with-work : (form : Form) (regions : List Region) (work own : Work) → work_of (with_work (go_plan form regions work) own) ≡ Some own
with-work form regions work own =
    go_plan-kinds (λ p. work_of (with_work p own) ≡ Some own) form regions work (λ none. refl) (λ buffer has fits. refl) (λ buffer. refl)

some-work : (a b : Work) → Some a ≡ Some b → a ≡ b
some-work a b e = cc

goes-by : (guest : Guest) (entry : List ℕ) (share : Share) (is : IsPlanned guest entry share) (own : Work) → share.plan ≡ with_work share.whole own
    → work_of share.plan ≡ Some own
goes-by guest entry share is own plan_is =
    ap work_of (plan_is ∙ ap (λ p. with_work p own) is.whole_is) ∙ with-work (form_of is.work.opcode) (regions_of guest) is.work own

-- it is cut out of the whole
pub cut-of : (guest : Guest) (entry : List ℕ) (share : Share) (is : IsPlanned guest entry share) → IsCutOf (form_of is.work.opcode) guest entry is.work share
cut-of guest entry share is =
    let sound = end-sound (mapped (regions_of guest)) guest.limit (shape_of guest).blocks entry is.work is.verdict in
    All-contains (IsCutOf (form_of is.work.opcode) guest entry is.work) (shares_of guest.namespace entry share.whole) share
    (subst (λ p. All (IsCutOf (form_of is.work.opcode) guest entry is.work) (shares_of guest.namespace entry p)) (sym is.whole_is)
    (go-cut (form_of is.work.opcode) guest entry is.work sound)) is.is_share

-- and has one work
pub cut-own : (guest : Guest) (entry : List ℕ) (share : Share) (is : IsPlanned guest entry share) (own : Work) → work_of share.plan ≡ Some own
    → (cut-of guest entry share is).own ≡ own
cut-own guest entry share is own goes =
    let cut = cut-of guest entry share is in
    some-work cut.own own (sym (goes-by guest entry share is cut.own cut.plan_is) ∙ goes)

-- all that the device's units rest on
pub record IsOwnShare (guest : Guest) (entry : List ℕ) (share : Share) (own : Work) : Type 1 where
  pub opcode : io_opcode (opcode_of entry) ≡ Some own.opcode
  pub goes : work_of share.plan ≡ Some own
  pub kinds : (P : Plan → Type 0) → P (NoData own) → (places_fit (regions_of guest) own.pieces ≡ true → P (Direct own)) → P (Bounced own)
      → P share.plan
  pub managed : form_of own.opcode ≡ Manage → share.plan ≡ Bounced own
  pub total : total_len own.pieces ≡ own_len (form_of own.opcode) own
  pub few : total_len own.pieces ≤ most_bytes
  pub grow : Grow share.numbers
  pub fua : own.fua ≡ (has_blocks own.opcode && is_fua entry)
  pub mapped_each : All (IsMappedPiece (mapped (regions_of guest))) own.pieces
  pub first : ℕ
  pub units : AreUnitsOf (form_of own.opcode) guest.namespace entry first own
  pub row : has_blocks own.opcode ≡ true → IsRow guest.namespace (slba_of entry) (count_of entry) own.units
  pub fit : has_blocks own.opcode ≡ true → (count_of entry ≤ blocks_in guest.namespace) × (slba_of entry ≤ blocks_in guest.namespace - count_of entry)
  pub ranges : form_of own.opcode ≡ Manage → blocks_in guest.namespace < 2 ^ 32 → All (IsRangeRow guest.namespace) own.ranges

pub own-share : (guest : Guest) (entry : List ℕ) (share : Share) (is : IsPlanned guest entry share)
    → IsOwnShare guest entry share (own_work guest entry share is)
own-share guest entry share is =
    let part = own-of guest entry share is in
    let sound = end-sound (mapped (regions_of guest)) guest.limit (shape_of guest).blocks entry is.work is.verdict in
    let same : form_of part.own.opcode ≡ form_of is.work.opcode = ap form_of part.opcode in
    let cut = cut-of guest entry share is in
    let goes : work_of share.plan ≡ Some part.own = goes-by guest entry share is part.own part.plan_is in
    let one = cut-own guest entry share is part.own goes in
    record {
      opcode = sound.opcode ∙ ap Some (sym part.opcode);
      goes = goes;
      kinds = (λ P no_data direct bounced. planned-kinds P guest entry share is no_data direct bounced);
      managed = (λ form.
          part.plan_is ∙ ap (λ p. with_work p part.own) (is.whole_is ∙ ap (λ f. go_plan f (regions_of guest) is.work) (sym same ∙ form)));
      total = subst (λ f. total_len part.own.pieces ≡ own_len f part.own) (sym same) part.total;
      few = own-few guest entry share is;
      grow = cut.grow;
      fua =
          ap (λ (w : Work). w.fua) (sym one) ∙ cut.fua
          ∙ end-fua (mapped (regions_of guest)) guest.limit (shape_of guest).blocks entry is.work is.verdict
          ∙ ap (λ o. has_blocks o && is_fua entry) (sym part.opcode);
      mapped_each = part.mapped_each;
      first = cut.first;
      units =
          subst (λ f. AreUnitsOf f guest.namespace entry cut.first part.own) (sym same)
          (subst (AreUnitsOf (form_of is.work.opcode) guest.namespace entry cut.first) one cut.units);
      row = (λ has. part.blocks (ap has_blocks (sym part.opcode) ∙ has));
      fit = (λ has.
          (let within = end-within (mapped (regions_of guest)) guest.limit (shape_of guest).blocks entry is.work is.verdict (ap has_blocks (sym part.opcode) ∙ has) in
          let both = and-true (nat_le (count_of entry) (blocks_in guest.namespace)) (nat_le (slba_of entry) (blocks_in guest.namespace - count_of entry)) within in
          (leb-true (count_of entry) (blocks_in guest.namespace) both.0, leb-true (slba_of entry) (blocks_in guest.namespace - count_of entry) both.1)));
      ranges = (λ form. part.rows (sym same ∙ form));
    }

-- where the share is a physical command, it has units
pub own-count : (guest : Guest) (entry : List ℕ) (share : Share) (is : IsPlanned guest entry share) → is_no_command share ≡ false
    → HasCount (form_of (own_work guest entry share is).opcode) (own_work guest entry share is)
own-count guest entry share is some =
    subst (λ f. HasCount f (own_work guest entry share is)) (sym (ap form_of (own-of guest entry share is).opcode)) (own-counts guest entry share is some)
