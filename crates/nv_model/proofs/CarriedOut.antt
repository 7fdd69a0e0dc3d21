-- Lemmas on carrying one command out.
use Rattle.std.proofs.Common.{◌≡◌, ℕ, zero, suc, ◌+◌, ◌<◌, true, ◌==◌, List, [], ◌∷◌, ◌++◌, length, map, slice_get, Some, arith, refl, sym, ap, ◌∙◌, subst, eq-eqb}
use Rattle.std.specs.List.{list_all, range_with_len}
use Rattle.nv_entry.specs.Status.{StatusField}
use Rattle.nv_model.specs.Judge.{WorkUnit, Work, Go, Refuse}
use Rattle.nv_model.specs.Private.{AtWork, Bag, Ended, Progress, Unjudged, JudgeStep, MoveStep, Moved, Private, Shape, Taken, ending, moved_status, others}
use Rattle.nv_model.specs.Private.{progress_of, run_of, step, unit_left, unseen, verdict_in}
use Rattle.nv_model.specs.Carried.{moved_on, units_moved}
use Rattle.nv_model.specs.Carrying.{IsCarriedOut, all_moved, at_work, ending_of, is_own_step, judged_then_moved, this_far, unmoved}
use Rattle.nv_model.proofs.Bags.{others-first, put-here, put-same, put-twice, unit_left-first}

-- a unit of a command moves
pub step-move : (shape : Shape) (name : ℕ) (t : Taken) (work : Work) (left : List ℕ) (number : ℕ) (unit : WorkUnit) (m : Moved) (p : Private)
    → unit_left work left number ≡ Some unit
    → step shape (MoveStep name number) (at_work name t work left m p) ≡ unseen (at_work name t work (others number left) (moved_on unit work m) p)
unfolding step
step-move shape name t work left number unit m p found =
    let same : (name == name) ≡ true = eq-eqb name name refl in
    let n = moved_on unit work m in
    rw (same, found)
    (ap (λ (b : Bag). unseen (record { memory = n.memory; disk = n.disk; kept = n.kept; controller = p.controller; bag = b }))
    (put-twice p.bag name (Some (record t { progress = AtWork work left m.differed })) (Some (record t { progress = AtWork work (others number left) n.differed }))))

-- a command is judged
pub step-judge : (shape : Shape) (name : ℕ) (t : Taken) (p : Private)
    → step shape (JudgeStep name) (this_far name t Unjudged p) ≡ unseen (this_far name t (progress_of (verdict_in shape p.memory t.entry)) p)
unfolding step
step-judge shape name t p =
    let same : (name == name) ≡ true = eq-eqb name name refl in
    rw same
    (ap (λ (b : Bag). unseen (record p { bag = b }))
    (put-twice p.bag name (Some (record t { progress = Unjudged })) (Some (record t { progress = progress_of (verdict_in shape p.memory t.entry) }))))

-- units in two parts
pub units_moved-append : (first rest : List WorkUnit) (work : Work) (m : Moved)
    → units_moved (first ++ rest) work m ≡ units_moved rest work (units_moved first work m)
unfolding units_moved
units_moved-append [] rest work m = refl
units_moved-append (unit ∷ first) rest work m = units_moved-append first rest work (moved_on unit work m)

-- the last units of a command move, in order of their numbers
pub run_of-moves : (shape : Shape) (name : ℕ) (t : Taken) (work : Work) (p : Private) (units : List WorkUnit) (start : ℕ) (m : Moved)
    → ((i : ℕ) → i < length units → slice_get work.units (start + i) ≡ slice_get units i)
    → run_of shape (map (MoveStep name) (range_with_len start (length units))) (at_work name t work (range_with_len start (length units)) m p)
    ≡ Some (record { state = at_work name t work [] (units_moved units work m) p; seen = [] })
unfolding run_of units_moved
run_of-moves shape name t work p [] start m each = refl
run_of-moves shape name t work p (unit ∷ units) start m each =
    let here : start + 0 ≡ start = omega arith in
    let first : slice_get work.units start ≡ Some unit = subst (λ (n : ℕ). slice_get work.units n ≡ Some unit) here (each 0 (omega arith)) in
    let found : unit_left work (range_with_len start (suc (length units))) start ≡ Some unit = unit_left-first work start (length units) ∙ first in
    let rest = run_of-moves shape name t work p units (start + 1) (moved_on unit work m)
    (λ i below. let next : start + suc i ≡ start + 1 + i = omega arith in subst (λ (n : ℕ). slice_get work.units n ≡ slice_get units i) next (each (suc i) (omega arith))) in
    rw (step-move shape name t work (range_with_len start (suc (length units))) start unit m p found, others-first start (length units), rest) refl

-- the steps are the command's own
own-moves : (name start units : ℕ)
    → list_all (is_own_step name) (map (MoveStep name) (range_with_len start units)) ≡ true
own-moves name start zero = refl
own-moves name start (suc units) =
    let same : (name == name) ≡ true = eq-eqb name name refl in
    rw (same, own-moves name (start + 1) units) refl

own-steps : (name units : ℕ) → list_all (is_own_step name) (judged_then_moved name units) ≡ true
own-steps name units = rw (eq-eqb name name refl, own-moves name 0 units) refl

-- a command that goes is judged, and its units move in order
run_of-judged_then_moved : (shape : Shape) (name : ℕ) (t : Taken) (p : Private) (work : Work)
    → verdict_in shape p.memory t.entry ≡ Go work
    → run_of shape (judged_then_moved name (length work.units)) (this_far name t Unjudged p)
    ≡ Some (record { state = all_moved name t work p; seen = [] })
unfolding run_of
run_of-judged_then_moved shape name t p work goes =
    let all = run_of-moves shape name t work p work.units 0 (unmoved p) (λ i below. let none : 0 + i ≡ i = omega arith in ap (slice_get work.units) none) in
    rw (step-judge shape name t p, goes, all) refl

-- a command that is refused is judged
run_of-judged : (shape : Shape) (name : ℕ) (t : Taken) (p : Private) (st : StatusField)
    → verdict_in shape p.memory t.entry ≡ Refuse st
    → run_of shape (judged_then_moved name 0) (this_far name t Unjudged p)
    ≡ Some (record { state = this_far name t (Ended st) p; seen = [] })
unfolding run_of
run_of-judged shape name t p st refused = rw (step-judge shape name t p, refused) refl

-- a state in which the command is not judged
pub unjudged-is : (name : ℕ) (t : Taken) (p : Private) → p.bag name ≡ Some t → t.progress ≡ Unjudged
    → this_far name t Unjudged p ≡ p
unjudged-is name t p there unjudged =
    let whole : record t { progress = Unjudged } ≡ t = ap (λ (g : Progress). record t { progress = g }) (sym unjudged) in
    ap (λ (b : Bag). record p { bag = b }) (put-same p.bag name (Some (record t { progress = Unjudged })) (there ∙ ap (λ (u : Taken). Some u) (sym whole)))

-- a command that is this far has ended so
pub ending_of-this_far : (name : ℕ) (t : Taken) (progress : Progress) (p : Private)
    → ending_of ((this_far name t progress p).bag name) ≡ ending progress
ending_of-this_far name t progress p = ap ending_of (put-here p.bag name (Some (record t { progress = progress })))

-- a command that goes: judging it, and moving its units in order, is a run
pub units_in_order : (shape : Shape) (p : Private) (name : ℕ) (t : Taken) (work : Work) → p.bag name ≡ Some t
    → t.progress ≡ Unjudged
    → verdict_in shape p.memory t.entry ≡ Go work
    → run_of shape (judged_then_moved name (length work.units)) p ≡ Some (record { state = all_moved name t work p; seen = [] })
units_in_order shape p name t work there unjudged goes =
    subst (λ (q : Private). run_of shape (judged_then_moved name (length work.units)) q ≡ Some (record { state = all_moved name t work p; seen = [] }))
    (unjudged-is name t p there unjudged) (run_of-judged_then_moved shape name t p work goes)

-- a command that is refused: judging it is a run
pub refusal_alone : (shape : Shape) (p : Private) (name : ℕ) (t : Taken) (st : StatusField) → p.bag name ≡ Some t
    → t.progress ≡ Unjudged
    → verdict_in shape p.memory t.entry ≡ Refuse st
    → run_of shape (judged_then_moved name 0) p ≡ Some (record { state = this_far name t (Ended st) p; seen = [] })
refusal_alone shape p name t st there unjudged refused =
    subst (λ (q : Private). run_of shape (judged_then_moved name 0) q ≡ Some (record { state = this_far name t (Ended st) p; seen = [] }))
    (unjudged-is name t p there unjudged) (run_of-judged shape name t p st refused)

-- the one and the other carry the command out
pub IsCarriedOut-moved : (shape : Shape) (p : Private) (name : ℕ) (t : Taken) (work : Work) → p.bag name ≡ Some t
    → t.progress ≡ Unjudged
    → verdict_in shape p.memory t.entry ≡ Go work
    → IsCarriedOut shape p name t (moved_status (units_moved work.units work (unmoved p)).differed) (all_moved name t work p)
IsCarriedOut-moved shape p name t work there unjudged goes =
    record {
      there = there;
      unjudged = unjudged;
      steps = judged_then_moved name (length work.units);
      own = own-steps name (length work.units);
      runs = units_in_order shape p name t work there unjudged goes;
      ended = ending_of-this_far name t (AtWork work [] (units_moved work.units work (unmoved p)).differed) p;
    }

pub IsCarriedOut-refused : (shape : Shape) (p : Private) (name : ℕ) (t : Taken) (st : StatusField) → p.bag name ≡ Some t
    → t.progress ≡ Unjudged
    → verdict_in shape p.memory t.entry ≡ Refuse st
    → IsCarriedOut shape p name t st (this_far name t (Ended st) p)
IsCarriedOut-refused shape p name t st there unjudged refused =
    record {
      there = there;
      unjudged = unjudged;
      steps = judged_then_moved name 0;
      own = own-steps name 0;
      runs = refusal_alone shape p name t st there unjudged refused;
      ended = ending_of-this_far name t (Ended st) p;
    }
