-- CDW10 to CDW12 of the whole as one share are by the fields of the entry, and with one extent there is no other share.
use Rattle.std.proofs.Common.{◌≡◌, ℕ, ◌+◌, ◌-◌, ◌*◌, ◌^◌, Bool, true, false, List, [], ◌∷◌, ◌++◌, length, Some, refl, ap, ◌∙◌, subst, arith}
use Rattle.std.specs.List.{slice_get}
use Rattle.nv_entry.specs.Status.{bit}
use Rattle.nv_entry.specs.Submission.{deallocate_of, nlb_of, nr_of, slba_of}
use Rattle.nv_mem.specs.declared.region.Region.{Region}
use Rattle.nv_ns.specs.Extents.{Namespace, blocks_in, place_in}
use Rattle.nv_model.specs.Judge.{ClearBlock, Clear, Form, Go, Keep, Manage, MoveBlock, Transfer, Work, WorkUnit, count_of, form_of, form_units, is_fua}
use Rattle.nv_model.proofs.Judged.{IsSoundWork}
use Rattle.nv_model.proofs.Units.{clear_units-at, move_units-at}
use Rattle.nv_prp.specs.Fits.{places_fit}
use Rattle.nv_world_model.specs.Area.{two_dwords}
use Rattle.nv_world_model.specs.Plan.{go_plan, plan_of, transfer_plan}
use Rattle.nv_world_model.specs.Share.{shares_of, whole_share}
use Rattle.nv_world_model.specs.ShareArea.{first_lba, own_dwords, unit_lba, work_dwords}
use Rattle.nv_laws.specs.ByEntry.{entry_dwords}
use Rattle.nv_world_model.proofs.OneExtent.{IsRun, IsRun-clear, IsRun-transfer, shares_of-one}

-- ---- dwords

first-unit : (units : List WorkUnit) (unit : WorkUnit) → slice_get units 0 ≡ Some unit → first_lba units ≡ unit_lba unit
first-unit [] unit is = absurd (cc)
first-unit (first ∷ rest) unit is = let same : first ≡ unit = cc in ap unit_lba same

run-dwords : (entry : List ℕ) (ns : Namespace) (work : Work) (lba : ℕ) → IsRun (blocks_in ns) entry work → first_lba work.units ≡ lba
    → lba ≡ slba_of entry
    → two_dwords (place_in ns (first_lba work.units)) ++ (length work.units - 1 + 2 ^ 30 * bit (is_fua entry)) ∷ []
    ≡ two_dwords (place_in ns (slba_of entry)) ++ (nlb_of entry + 2 ^ 30 * bit (is_fua entry)) ∷ []
run-dwords entry ns work lba run first is =
    let size = run.size in
    let place = ap (place_in ns) (first ∙ is) in
    let count : length work.units - 1 ≡ nlb_of entry = omega arith in
    ap (λ (n : ℕ). two_dwords n ++ (length work.units - 1 + 2 ^ 30 * bit (is_fua entry)) ∷ []) place
    ∙ ap (λ (n : ℕ). two_dwords (place_in ns (slba_of entry)) ++ (n + 2 ^ 30 * bit (is_fua entry)) ∷ []) count

form-dwords : (form : Form) (mapped : ℕ → Bool) (entry : List ℕ) (ns : Namespace) (work : Work) → IsSoundWork mapped (blocks_in ns) entry work
    → form_of work.opcode ≡ form → work_dwords form ns entry work ≡ entry_dwords form ns entry
form-dwords (Transfer dest) mapped entry ns work sound form =
    let units = sound.units ∙ ap (λ (f : Form). form_units f (blocks_in ns) entry work.ranges) form in
    let first = first-unit work.units (MoveBlock 0 (slba_of entry + 0)) (ap (λ (us : List WorkUnit). slice_get us 0) units
    ∙ move_units-at (slba_of entry) (count_of entry) 0 (omega arith)) in
    run-dwords entry ns work (slba_of entry + 0) (IsRun-transfer dest mapped (blocks_in ns) entry work sound form) first (omega arith)
form-dwords Clear mapped entry ns work sound form =
    let units = sound.units ∙ ap (λ (f : Form). form_units f (blocks_in ns) entry work.ranges) form in
    let first = first-unit work.units (ClearBlock (slba_of entry + 0) (is_fua entry)) (ap (λ (us : List WorkUnit). slice_get us 0) units
    ∙ clear_units-at (is_fua entry) (slba_of entry) (count_of entry) 0 (omega arith)) in
    run-dwords entry ns work (slba_of entry + 0) (IsRun-clear mapped (blocks_in ns) entry work sound form) first (omega arith)
form-dwords Manage mapped entry ns work sound form =
    let counted = sound.counted form in
    let count : length work.ranges - 1 ≡ nr_of entry = omega arith in
    ap (λ (n : ℕ). n ∷ (4 * deallocate_of entry) ∷ 0 ∷ []) count
form-dwords Keep mapped entry ns work sound form = refl

go-dwords : (form : Form) (regions : List Region) (mapped : ℕ → Bool) (entry : List ℕ) (ns : Namespace) (work : Work)
    → IsSoundWork mapped (blocks_in ns) entry work
    → own_dwords (go_plan form regions work) ns entry ≡ entry_dwords (form_of work.opcode) ns entry
go-dwords (Transfer dest) regions mapped entry ns work sound =
    elim (places_fit regions work.pieces) as (λ b. own_dwords (transfer_plan b work) ns entry ≡ entry_dwords (form_of work.opcode) ns entry) [
      | true ↦ form-dwords (form_of work.opcode) mapped entry ns work sound refl
      | false ↦ form-dwords (form_of work.opcode) mapped entry ns work sound refl
    ]
go-dwords Clear regions mapped entry ns work sound = form-dwords (form_of work.opcode) mapped entry ns work sound refl
go-dwords Manage regions mapped entry ns work sound = form-dwords (form_of work.opcode) mapped entry ns work sound refl
go-dwords Keep regions mapped entry ns work sound = form-dwords (form_of work.opcode) mapped entry ns work sound refl

pub own_dwords-whole : (regions : List Region) (mapped : ℕ → Bool) (entry : List ℕ) (ns : Namespace) (work : Work)
    → IsSoundWork mapped (blocks_in ns) entry work
    → own_dwords (plan_of regions (Go work)) ns entry ≡ entry_dwords (form_of work.opcode) ns entry
own_dwords-whole regions mapped entry ns work sound = go-dwords (form_of work.opcode) regions mapped entry ns work sound

-- ---- one extent

pub shares_of-alone : (regions : List Region) (mapped : ℕ → Bool) (ns : Namespace) (entry : List ℕ) (work : Work) → length ns ≡ 1
    → IsSoundWork mapped (blocks_in ns) entry work
    → shares_of ns entry (plan_of regions (Go work)) ≡ whole_share (plan_of regions (Go work)) work ∷ []
shares_of-alone regions mapped [] entry work one sound = absurd (omega arith)
shares_of-alone regions mapped (extent ∷ []) entry work one sound =
    let blocks : extent.blocks + 0 ≡ extent.blocks = omega arith in
    shares_of-one regions mapped entry extent work (subst (λ (n : ℕ). IsSoundWork mapped n entry work) blocks sound)
shares_of-alone regions mapped (extent ∷ next ∷ rest) entry work one sound = absurd (omega arith)
