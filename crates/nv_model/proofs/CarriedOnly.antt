-- A command is carried out by being judged and by its units' moves, each once, and in no other way.
use Rattle.std.proofs.Common.{◌≡◌, ℕ, true, false, cond, ◌==◌, List, [], ◌∷◌, slice_get, Option, Some, None, IfSome, refl, sym, ◌∙◌, subst, eq-eqb, eqb-true}
use Rattle.std.specs.List.{list_all, list_any}
use Rattle.nv_entry.specs.Status.{StatusField}
use Rattle.nv_model.specs.Judge.{WorkUnit, Work, Verdict, Go, Refuse}
use Rattle.nv_model.specs.Private.{AtWork, Ended, Unjudged, ActStep, AdminQueueStep, GiveUpStep, JudgeStep, KeepStep, MoveStep, PostStep, RunOutStep, TakeStep}
use Rattle.nv_model.specs.Private.{Moved, Private, Run, Shape, Step, Taken, ending, further, moved_status, numbers_of, others, progress_of, run_of, step}
use Rattle.nv_model.specs.Private.{unit_left, verdict_in}
use Rattle.nv_model.specs.Carried.{moved_on, units_moved}
use Rattle.nv_model.specs.Carrying.{IsCarriedOut, at_work, ending_of, is_own_step, this_far, unmoved}
use Rattle.nv_model.specs.Laws.{HasMoved, IsOrderOf}
use Rattle.nv_model.proofs.Bags.{IsDistinct, IsDistinct-others, IsDistinct-range, StandsAt, numbered, numbered-all, numbered-none, stands_at}
use Rattle.nv_model.proofs.CarriedOut.{ending_of-this_far, step-judge, step-move, unjudged-is}
use Rattle.nv_model.proofs.Endings.{and-true}
use Rattle.nv_model.proofs.StepsKept.{further-state}

-- what an end of a run has, where the first implies it
ends-imply : (P Q : Run → Type 0) (o : Option Run) → ((r : Run) → P r → Q r) → IfSome o P → IfSome o Q
ends-imply P Q None implies ends = tt
ends-imply P Q (Some r) implies ends = implies r ends

-- a unit that is left is one of the work's, and its number is left
unit_left-some : (work : Work) (left : List ℕ) (number : ℕ) (unit : WorkUnit) → unit_left work left number ≡ Some unit
    → (list_any (λ k. k == number) left ≡ true) × (slice_get work.units number ≡ Some unit)
unit_left-some work left number unit is =
    (elim (list_any (λ k. k == number) left) as (λ b. list_any (λ k. k == number) left ≡ b → cond b (slice_get work.units number) None ≡ Some unit
    → (list_any (λ k. k == number) left ≡ true) × (slice_get work.units number ≡ Some unit)) [
      | true ↦ λ there found. (there, found)
      | false ↦ λ _ bad. cc
    ]) refl is

module _ (shape : Shape) (name : ℕ) (t : Taken) (p : Private) where
  same : (name == name) ≡ true
  same = eq-eqb name name refl

  -- ---- the steps that can't be made

  step-judge_again : (work : Work) (left : List ℕ) (m : Moved)
      → step shape (JudgeStep name) (at_work name t work left m p) ≡ None
  unfolding step
  step-judge_again work left m = rw same refl

  step-judge_ended : (st : StatusField) → step shape (JudgeStep name) (this_far name t (Ended st) p) ≡ None
  unfolding step
  step-judge_ended st = rw same refl

  step-move_ended : (st : StatusField) (number : ℕ)
      → step shape (MoveStep name number) (this_far name t (Ended st) p) ≡ None
  unfolding step
  step-move_ended st number = rw same refl

  step-move_unjudged : (number : ℕ) → step shape (MoveStep name number) (this_far name t Unjudged p) ≡ None
  unfolding step
  step-move_unjudged number = rw same refl

  step-move_nowhere : (work : Work) (left : List ℕ) (m : Moved) (number : ℕ) → unit_left work left number ≡ None
      → step shape (MoveStep name number) (at_work name t work left m p) ≡ None
  unfolding step
  step-move_nowhere work left m number none = rw (same, none) refl

  -- ---- behind the verdict

  -- the units that were left have moved, each once
  record MovedFrom (work : Work) (left : List ℕ) (m : Moved) (st : StatusField) (q : Private) : Type 0 where
    order : List WorkUnit
    each_once : IsOrderOf order (numbered work.units left)
    status : st ≡ moved_status (units_moved order work m).differed
    behind : q ≡ at_work name t work [] (units_moved order work m) p

  -- an end with a status has that
  abbrev AtEnd : (StatusField → Private → Type 0) → Run → Type 0
  AtEnd P r = (st : StatusField) → ending_of (r.state.bag name) ≡ Some st → P st r.state

  -- one unit, and those behind it
  one_more : (work : Work) (left : List ℕ) (m : Moved) (number : ℕ) (unit : WorkUnit)
      → StandsAt work.units left number unit
      → (st : StatusField) (q : Private) → MovedFrom work (others number left) (moved_on unit work m) st q
      → MovedFrom work left m st q
  unfolding units_moved
  one_more work left m number unit at st q rest =
      record {
        order = unit ∷ rest.order;
        each_once = (at.place, (at.found, subst (λ (us : List WorkUnit). IsOrderOf rest.order us) (sym at.rest) rest.each_once));
        status = rest.status;
        behind = rest.behind;
      }

  none_left : (work : Work) (left : List ℕ) (m : Moved) (st : StatusField)
      → ending (AtWork work left m.differed) ≡ Some st → MovedFrom work left m st (at_work name t work left m p)
  unfolding units_moved
  none_left work [] m st is = record { order = []; each_once = numbered-none work.units; status = cc; behind = refl }
  none_left work (number ∷ left) m st is = cc

  -- behind a move, where it is so behind the moves that follow
  move-end : (work : Work) (steps : List Step) (left : List ℕ) (m : Moved) (number : ℕ) → IsDistinct left
      → ((unit : WorkUnit) → IfSome (run_of shape steps (at_work name t work (others number left) (moved_on unit work m) p)) (AtEnd (MovedFrom work (others number left) (moved_on unit work m))))
      → (o : Option WorkUnit) → unit_left work left number ≡ o
      → IfSome (further (step shape (MoveStep name number) (at_work name t work left m p)) (λ q. run_of shape steps q)) (AtEnd (MovedFrom work left m))
  move-end work steps left m number distinct rest None none = rw (step-move_nowhere work left m number none) tt
  move-end work steps left m number distinct rest (Some unit) found =
      let there = unit_left-some work left number unit found in
      rw (step-move shape name t work left number unit m p found)
      (further-state (λ q. (st : StatusField) → ending_of (q.bag name) ≡ Some st → MovedFrom work left m st q)
      (record { state = at_work name t work (others number left) (moved_on unit work m) p; seen = None })
      (run_of shape steps (at_work name t work (others number left) (moved_on unit work m) p))
      (ends-imply (AtEnd (MovedFrom work (others number left) (moved_on unit work m))) (AtEnd (MovedFrom work left m))
      (run_of shape steps (at_work name t work (others number left) (moved_on unit work m) p))
      (λ r ends st is. one_more work left m number unit (stands_at work.units left number unit distinct there.0 there.1) st r.state (ends st is)) (rest unit)))

  -- a run of the command's own steps, once it is at work
  moves-end : (work : Work) (steps : List Step) (left : List ℕ) (m : Moved) → IsDistinct left
      → list_all (is_own_step name) steps ≡ true
      → IfSome (run_of shape steps (at_work name t work left m p)) (AtEnd (MovedFrom work left m))
  unfolding run_of
  moves-end work [] left m distinct own =
      λ st is. none_left work left m st (sym (ending_of-this_far name t (AtWork work left m.differed) p) ∙ is)
  moves-end work (JudgeStep other ∷ steps) left m distinct own =
      let named_so = eqb-true other name (and-true _ _ own).0 in
      subst (λ (n : ℕ). IfSome (further (step shape (JudgeStep n) (at_work name t work left m p)) (λ q. run_of shape steps q)) (AtEnd (MovedFrom work left m)))
      (sym named_so) (rw (step-judge_again work left m) tt)
  moves-end work (MoveStep other number ∷ steps) left m distinct own =
      let named_so = eqb-true other name (and-true _ _ own).0 in
      subst (λ (n : ℕ). IfSome (further (step shape (MoveStep n number) (at_work name t work left m p)) (λ q. run_of shape steps q)) (AtEnd (MovedFrom work left m)))
      (sym named_so)
      (move-end work steps left m number distinct
      (λ unit. moves-end work steps (others number left) (moved_on unit work m) (IsDistinct-others number left distinct) (and-true _ _ own).1) (unit_left work left number) refl)
  moves-end work (ActStep a ∷ steps) left m distinct own = cc
  moves-end work (TakeStep queue other ∷ steps) left m distinct own = cc
  moves-end work (GiveUpStep other ∷ steps) left m distinct own = cc
  moves-end work (PostStep other ∷ steps) left m distinct own = cc
  moves-end work (RunOutStep other ∷ steps) left m distinct own = cc
  moves-end work (AdminQueueStep ∷ steps) left m distinct own = cc
  moves-end work (KeepStep lba ∷ steps) left m distinct own = cc

  -- one that was refused: nothing follows
  refused-end : (told : StatusField) (steps : List Step) → list_all (is_own_step name) steps ≡ true
      → IfSome (run_of shape steps (this_far name t (Ended told) p)) (AtEnd (λ st q. (st ≡ told) × (q ≡ this_far name t (Ended told) p)))
  unfolding run_of
  refused-end told [] own =
      λ st is. (let e : Some told ≡ Some st = sym (ending_of-this_far name t (Ended told) p) ∙ is in cc, refl)
  refused-end told (JudgeStep other ∷ steps) own =
      let named_so = eqb-true other name (and-true _ _ own).0 in
      subst (λ (n : ℕ). IfSome (further (step shape (JudgeStep n) (this_far name t (Ended told) p)) (λ q. run_of shape steps q))
      (AtEnd (λ st q. (st ≡ told) × (q ≡ this_far name t (Ended told) p))))
      (sym named_so) (rw (step-judge_ended told) tt)
  refused-end told (MoveStep other number ∷ steps) own =
      let named_so = eqb-true other name (and-true _ _ own).0 in
      subst (λ (n : ℕ). IfSome (further (step shape (MoveStep n number) (this_far name t (Ended told) p)) (λ q. run_of shape steps q))
      (AtEnd (λ st q. (st ≡ told) × (q ≡ this_far name t (Ended told) p))))
      (sym named_so) (rw (step-move_ended told number) tt)
  refused-end told (ActStep a ∷ steps) own = cc
  refused-end told (TakeStep queue other ∷ steps) own = cc
  refused-end told (GiveUpStep other ∷ steps) own = cc
  refused-end told (PostStep other ∷ steps) own = cc
  refused-end told (RunOutStep other ∷ steps) own = cc
  refused-end told (AdminQueueStep ∷ steps) own = cc
  refused-end told (KeepStep lba ∷ steps) own = cc

  -- ---- from the start

  -- what a verdict leads to
  abbrev EndOf : Verdict → StatusField → Private → Type 0
  EndOf (Refuse told) st q = (st ≡ told) × (q ≡ this_far name t (Ended told) p)
  EndOf (Go work) st q = MovedFrom work (numbers_of work) (unmoved p) st q

  -- behind the judging
  judged-end : (v : Verdict) (steps : List Step) → list_all (is_own_step name) steps ≡ true
      → IfSome (run_of shape steps (this_far name t (progress_of v) p)) (AtEnd (EndOf v))
  judged-end (Refuse told) steps own = refused-end told steps own
  judged-end (Go work) steps own = moves-end work steps (numbers_of work) (unmoved p) (IsDistinct-range 0 _) own

  run-end : (steps : List Step) → list_all (is_own_step name) steps ≡ true
      → IfSome (run_of shape steps (this_far name t Unjudged p)) (AtEnd (EndOf (verdict_in shape p.memory t.entry)))
  unfolding run_of
  run-end [] own = λ st is. (let e : None ≡ Some st = sym (ending_of-this_far name t Unjudged p) ∙ is in cc)
  run-end (JudgeStep other ∷ steps) own =
      let named_so = eqb-true other name (and-true _ _ own).0 in
      subst (λ (n : ℕ). IfSome (further (step shape (JudgeStep n) (this_far name t Unjudged p)) (λ q. run_of shape steps q)) (AtEnd (EndOf (verdict_in shape p.memory t.entry))))
      (sym named_so)
      (rw (step-judge shape name t p)
      (further-state (λ q. (st : StatusField) → ending_of (q.bag name) ≡ Some st → EndOf (verdict_in shape p.memory t.entry) st q)
      (record { state = this_far name t (progress_of (verdict_in shape p.memory t.entry)) p; seen = None })
      (run_of shape steps (this_far name t (progress_of (verdict_in shape p.memory t.entry)) p))
      (judged-end (verdict_in shape p.memory t.entry) steps (and-true _ _ own).1)))
  run-end (MoveStep other number ∷ steps) own =
      let named_so = eqb-true other name (and-true _ _ own).0 in
      subst (λ (n : ℕ). IfSome (further (step shape (MoveStep n number) (this_far name t Unjudged p)) (λ q. run_of shape steps q)) (AtEnd (EndOf (verdict_in shape p.memory t.entry))))
      (sym named_so) (rw (step-move_unjudged number) tt)
  run-end (ActStep a ∷ steps) own = cc
  run-end (TakeStep queue other ∷ steps) own = cc
  run-end (GiveUpStep other ∷ steps) own = cc
  run-end (PostStep other ∷ steps) own = cc
  run-end (RunOutStep other ∷ steps) own = cc
  run-end (AdminQueueStep ∷ steps) own = cc
  run-end (KeepStep lba ∷ steps) own = cc

  -- what carries a command out ends as its verdict says
  carried-end : (q : Private) (st : StatusField) → IsCarriedOut shape p name t st q
      → EndOf (verdict_in shape p.memory t.entry) st q
  carried-end q st c =
      let from = unjudged-is name t p c.there c.unjudged in
      let there = subst (λ (s : Private). IfSome (run_of shape c.steps s) (AtEnd (EndOf (verdict_in shape p.memory t.entry)))) from (run-end c.steps c.own) in
      let ends = subst (λ (o : Option Run). IfSome o (AtEnd (EndOf (verdict_in shape p.memory t.entry)))) c.runs there in
      ends st c.ended

  pub refused-only : (q : Private) (st told : StatusField) → IsCarriedOut shape p name t st q
      → verdict_in shape p.memory t.entry ≡ Refuse told
      → (st ≡ told) × (q ≡ this_far name t (Ended told) p)
  refused-only q st told c refused = subst (λ (v : Verdict). EndOf v st q) refused (carried-end q st c)

  pub moved-only : (q : Private) (work : Work) (st : StatusField) → IsCarriedOut shape p name t st q
      → verdict_in shape p.memory t.entry ≡ Go work → HasMoved p name t work st q
  moved-only q work st c goes =
      let end : MovedFrom work (numbers_of work) (unmoved p) st q = subst (λ (v : Verdict). EndOf v st q) goes (carried-end q st c) in
      record {
        order = end.order;
        each_once = subst (λ (us : List WorkUnit). IsOrderOf end.order us) (numbered-all work.units) end.each_once;
        status = end.status;
        behind = end.behind;
      }
