-- The statuses of commands all of whose units have moved.
use Rattle.std.proofs.Common.{◌≡◌, ℕ, ◌^◌, ◌<◌, Bool, true, false, cond, ◌||◌, ◌==◌, List, [], ◌∷◌, All, filter, map, Some, arith, refl, sym, ap, ◌∙◌}
use Rattle.std.specs.List.{enumerate_from, list_any}
use Rattle.std.proofs.lemmas.List.Elements.{All-head, All-tail}
use Rattle.nv_entry.proofs.CompletionLemmas.{completion-back}
use Rattle.nv_entry.specs.Completion.{completion, status_of}
use Rattle.nv_entry.specs.Status.{StatusField}
use Rattle.nv_model.specs.Judge.{Work, form_of}
use Rattle.nv_model.specs.Private.{AtWork, Progress, ending, moved_status, numbers_of}
use Rattle.nv_world_model.specs.Plan.{Plan}
use Rattle.nv_world_model.specs.Seat.{Rest, form_numbers, rest, tells_difference, units_behind, work_progress}
use Rattle.nv_world_model.specs.Step.{deciding, is_success, passed_on}
use Rattle.nv_laws.specs.Related.{IsMovedStatus}

-- where none of the device's units is left no unit is
none-passes : (us : List (ℕ × ℕ)) → map (λ u. u.0) (filter (λ u. list_any (λ k. k == u.1) []) us) ≡ []
none-passes [] = refl
none-passes (u ∷ us) = none-passes us

pub units_behind-none : (work : Work) → units_behind work [] ≡ []
unfolding units_behind
units_behind-none work = none-passes (enumerate_from 0 (form_numbers (form_of work.opcode) work))

-- such a status tells whether a Compare differed
pub moved-tells : (differed : Bool) → tells_difference (moved_status differed) ≡ differed
moved-tells true = refl
moved-tells false = refl

passed_on-by : (differed : Bool) → passed_on (moved_status differed) ≡ moved_status differed
passed_on-by true = refl
passed_on-by false = refl

-- the guest gets it as it is
pub passed_on-moved : (plan : Plan) (st : StatusField) → IsMovedStatus plan st → passed_on st ≡ st
passed_on-moved plan st is =
    ap passed_on is.status ∙ passed_on-by (tells_difference st) ∙ sym is.status

-- ---- a command's tags together

-- the first that isn't success is that of a Compare which differs, where there is one
pub deciding-moved : (sts : List StatusField) → All (λ (st : StatusField). st ≡ moved_status (tells_difference st)) sts
    → deciding sts ≡ moved_status (list_any tells_difference sts)
deciding-moved [] each = refl
deciding-moved (st ∷ sts) each =
    let first = All-head (λ (x : StatusField). x ≡ moved_status (tells_difference x)) st sts each in
    let rest = deciding-moved sts (All-tail (λ (x : StatusField). x ≡ moved_status (tells_difference x)) st sts each) in
    ap (λ x. cond (is_success x) (deciding sts) x) first ∙ by (tells_difference st) rest
  where
    by : (d : Bool) → deciding sts ≡ moved_status (list_any tells_difference sts)
        → cond (is_success (moved_status d)) (deciding sts) (moved_status d) ≡ moved_status (d || list_any tells_difference sts)
    by true rest = refl
    by false rest = rest

-- the rest of a share that has ended with a status
abbrev pub ended_rest : StatusField → Rest
ended_rest st = rest [] (tells_difference st)

none-left : (sts : List StatusField) (k : ℕ) → list_any (λ (r : Rest). list_any (λ other. other == k) r.left) (map ended_rest sts) ≡ false
none-left [] k = refl
none-left (st ∷ sts) k = none-left sts k

filter-none : (test : ℕ → Bool) (ks : List ℕ) → ((k : ℕ) → test k ≡ false) → filter test ks ≡ []
filter-none test [] none = refl
filter-none test (k ∷ ks) none = ap (λ b. cond b (k ∷ filter test ks) (filter test ks)) (none k) ∙ filter-none test ks none

differed-same : (sts : List StatusField) → list_any (λ (r : Rest). r.differed) (map ended_rest sts) ≡ list_any tells_difference sts
differed-same [] = refl
differed-same (st ∷ sts) = ap (λ b. tells_difference st || b) (differed-same sts)

-- a command all of whose shares have ended so has ended with the status that decides
pub group-ends : (work : Work) (sts : List StatusField) → All (λ (st : StatusField). st ≡ moved_status (tells_difference st)) sts
    → ending (work_progress (Some work) (map ended_rest sts)) ≡ Some (deciding sts)
group-ends work sts each =
    ap (λ left. ending (at_work left (list_any (λ (r : Rest). r.differed) (map ended_rest sts))))
    (filter-none (λ k. list_any (λ (r : Rest). list_any (λ other. other == k) r.left) (map ended_rest sts)) (numbers_of work) (none-left sts))
    ∙ ap (λ differed. ending (at_work [] differed)) (differed-same sts) ∙ ap (λ x. Some x) (sym (deciding-moved sts each))
  where
    at_work : List ℕ → Bool → Progress
    at_work left differed = AtWork work left differed

-- ---- completions

pub moved-back : (dw0 sqhd sqid cid : ℕ) (phase differed : Bool) → cid < 2 ^ 16
    → status_of (completion dw0 sqhd sqid cid phase (moved_status differed)) ≡ moved_status differed
moved-back dw0 sqhd sqid cid phase true below = completion-back dw0 sqhd sqid cid phase (moved_status true) below (omega arith) (omega arith)
moved-back dw0 sqhd sqid cid phase false below = completion-back dw0 sqhd sqid cid phase (moved_status false) below (omega arith) (omega arith)
