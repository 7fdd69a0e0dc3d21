-- The numbers of all shares of a plan, of every form.
use Rattle.std.proofs.Common.{◌≡◌, ℕ, ◌+◌, Bool, true, false, ◌&&◌, List, [], ◌∷◌, ◌++◌, map, refl, ap, sym, ◌∙◌, arith, append-nil}
use Rattle.std.specs.List.{enumerate_from, flat_map, list_all, range_with_len}
use Rattle.std.proofs.lemmas.List.Folds.{flat_map-map}
use Rattle.nv_entry.specs.Range.{blocks_of, start_of}
use Rattle.nv_entry.specs.Submission.{slba_of}
use Rattle.nv_mem.specs.declared.region.Region.{Region}
use Rattle.nv_ns.specs.Extents.{Cut, Namespace, Placed, blocks_in, cuts, placed}
use Rattle.nv_ns.proofs.Ranges.{InNamespace-tested}
use Rattle.nv_model.specs.Judge.{Clear, Form, Go, Keep, Manage, Transfer, Work, count_of, form_of, range_fits}
use Rattle.nv_model.specs.Private.{numbers_of}
use Rattle.nv_model.proofs.Judged.{IsSoundWork}
use Rattle.nv_prp.specs.Fits.{places_fit}
use Rattle.nv_world_model.specs.Plan.{Bounced, Direct, NoData, Plan, go_plan, plan_of, transfer_plan}
use Rattle.nv_world_model.specs.Share.{Share, block_share, numbers_met, range_share, shares_by, shares_of}
use Rattle.nv_world_model.proofs.OneExtent.{IsRun, IsRun-clear, IsRun-transfer, IsSoundWork-counts}
use Rattle.nv_world_model.proofs.ShareNumbers.{AreWithin, cut_numbers, cuts-numbers, ranges-times, times}

-- the numbers of these shares, one behind the other
abbrev pub all_numbers : List Share → List ℕ
all_numbers shares = flat_map (λ (share : Share). share.numbers) shares

numbers-cut : (cuts : List Cut) → flat_map (λ (cut : Cut). range_with_len cut.first cut.count) cuts ≡ flat_map (cut_numbers 0) cuts
numbers-cut [] = refl
numbers-cut (cut ∷ rest) =
    let first : cut.first ≡ 0 + cut.first = omega arith in
    let head = ap (λ (n : ℕ). range_with_len n cut.count) first in
    let tail = numbers-cut rest in cc

-- a run's, in order
run-numbers : (ns : Namespace) (entry : List ℕ) (plan : Plan) (work : Work) → IsRun (blocks_in ns) entry work
    → all_numbers (map (block_share plan work) (cuts ns (slba_of entry) (count_of entry))) ≡ numbers_of work
run-numbers ns entry plan work run =
    let within = run.within in
    flat_map-map (λ (share : Share). share.numbers) (block_share plan work) (cuts ns (slba_of entry) (count_of entry))
    ∙ numbers-cut (cuts ns (slba_of entry) (count_of entry))
    ∙ cuts-numbers 0 ns (slba_of entry) (count_of entry) (omega arith, omega arith)
    ∙ sym (ap (range_with_len 0) run.size)

-- each extent by its number
numbers-extents : (from : ℕ) (plan : Plan) (work : Work) (ats : List Placed)
    → flat_map (λ (p : ℕ × Placed). (range_share plan work p.0 p.1).numbers) (enumerate_from from ats)
    ≡ flat_map (λ (at : Placed). numbers_met 0 at work.ranges) ats
numbers-extents from plan work [] = refl
numbers-extents from plan work (at ∷ rest) =
    ap (λ (xs : List ℕ). numbers_met 0 at work.ranges ++ xs) (numbers-extents (from + 1) plan work rest)

left_of : (a b : Bool) → (a && b) ≡ true → a ≡ true
left_of true b both = refl
left_of false b both = absurd (cc)

right_of : (a b : Bool) → (a && b) ≡ true → b ≡ true
right_of true b both = both
right_of false b both = absurd (cc)

within-tested : (ns : Namespace) (ranges : List (List ℕ)) → list_all (range_fits (blocks_in ns)) ranges ≡ true → AreWithin ns ranges
within-tested ns [] fit = tt
within-tested ns (range ∷ rest) fit = (
  InNamespace-tested (start_of range) (blocks_of range) (blocks_in ns)
      (left_of (range_fits (blocks_in ns) range) (list_all (range_fits (blocks_in ns)) rest) fit),
  within-tested ns rest (right_of (range_fits (blocks_in ns) range) (list_all (range_fits (blocks_in ns)) rest) fit),
)

shares-times : (k : ℕ) (form : Form) (mapped : ℕ → Bool) (ns : Namespace) (entry : List ℕ) (plan : Plan) (work : Work)
    → IsSoundWork mapped (blocks_in ns) entry work → form_of work.opcode ≡ form
    → times k (all_numbers (shares_by form ns entry plan work)) ≡ times k (numbers_of work)
shares-times k (Transfer dest) mapped ns entry plan work sound form =
    ap (times k) (run-numbers ns entry plan work (IsRun-transfer dest mapped (blocks_in ns) entry work sound form))
shares-times k Clear mapped ns entry plan work sound form =
    ap (times k) (run-numbers ns entry plan work (IsRun-clear mapped (blocks_in ns) entry work sound form))
shares-times k Manage mapped ns entry plan work sound form =
    let size = IsSoundWork-counts mapped (blocks_in ns) entry work sound form in
    ap (times k) (flat_map-map (λ (share : Share). share.numbers) (λ (p : ℕ × Placed). range_share plan work p.0 p.1) (enumerate_from 0 (placed 0 ns))
    ∙ numbers-extents 0 plan work (placed 0 ns))
    ∙ ranges-times k 0 ns work.ranges (within-tested ns work.ranges sound.fit)
    ∙ sym (ap (λ (n : ℕ). times k (range_with_len 0 n)) size)
shares-times k Keep mapped ns entry plan work sound form = ap (times k) (append-nil (numbers_of work))

shares-times-go : (k : ℕ) (form : Form) (regions : List Region) (mapped : ℕ → Bool) (ns : Namespace) (entry : List ℕ) (work : Work)
    → IsSoundWork mapped (blocks_in ns) entry work
    → times k (all_numbers (shares_of ns entry (go_plan form regions work))) ≡ times k (numbers_of work)
shares-times-go k (Transfer dest) regions mapped ns entry work sound =
    elim (places_fit regions work.pieces) as (λ b. times k (all_numbers (shares_of ns entry (transfer_plan b work))) ≡ times k (numbers_of work)) [
      | true ↦ shares-times k (form_of work.opcode) mapped ns entry (Direct work) work sound refl
      | false ↦ shares-times k (form_of work.opcode) mapped ns entry (Bounced work) work sound refl
    ]
shares-times-go k Clear regions mapped ns entry work sound = shares-times k (form_of work.opcode) mapped ns entry (NoData work) work sound refl
shares-times-go k Manage regions mapped ns entry work sound = shares-times k (form_of work.opcode) mapped ns entry (Bounced work) work sound refl
shares-times-go k Keep regions mapped ns entry work sound = shares-times k (form_of work.opcode) mapped ns entry (NoData work) work sound refl

-- each number is as often there as in the whole
pub shares_of-times : (k : ℕ) (regions : List Region) (mapped : ℕ → Bool) (ns : Namespace) (entry : List ℕ) (work : Work)
    → IsSoundWork mapped (blocks_in ns) entry work
    → times k (all_numbers (shares_of ns entry (plan_of regions (Go work)))) ≡ times k (numbers_of work)
shares_of-times k regions mapped ns entry work sound = shares-times-go k (form_of work.opcode) regions mapped ns entry work sound
