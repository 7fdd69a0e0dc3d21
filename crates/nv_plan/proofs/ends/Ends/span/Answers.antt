use Rattle.std.proofs.Common.{◌≡◌, suc, ◌-◌, List, ℕ, take, slice_index_or, Some, ap, sym, ◌∙◌, arith}
use Rattle.std.proofs.lemmas.Option.{slice_get-get_or}
use Rattle.nv_plan.specs.Runs.{begin_of}
use Rattle.nv_plan.proofs.CutRuns.{begin-behind}
use Rattle.nv_plan.proofs.ends.Ends.span.Goals as goal
use Rattle.nv_plan.proofs.ends.Ends.span.Goals.{then-part-eq0, else-part-eq0}

pub returns-clause-begin : goal.returns-clause-begin
returns-clause-begin c = elim c.if-part-eq0.branch [
  | then-part-eq0 w ↦ w.begin-is ∙ sym (ap (begin_of 0 c.args.self.now) w.if-part-eq0.true)
  | else-part-eq0 w ↦
      (let some = w.if-part-eq0.false in
      let same : take c.from.result c.self.inside.ends ≡ c.args.self.now = ap (λ n. take n c.self.inside.ends) c.from.ensures ∙ c.self.view_is in
      let front : c.args.part ≡ suc (c.args.part - 1) = omega arith in
      w.begin-is ∙ ap (λ (ends : List ℕ). slice_index_or ends (c.args.part - 1) 0) same
      ∙ sym (begin-behind 0 c.args.self.now (c.args.part - 1) (slice_index_or c.args.self.now (c.args.part - 1) 0)
      (slice_get-get_or c.args.self.now (c.args.part - 1) 0 (omega arith)))
      ∙ sym (ap (begin_of 0 c.args.self.now) front))
]

pub returns-clause-end : goal.returns-clause-end
returns-clause-end c =
    let same : take c.from.result c.self.inside.ends ≡ c.args.self.now = ap (λ n. take n c.self.inside.ends) c.from.ensures ∙ c.self.view_is in
    slice_get-get_or c.args.self.now c.args.part 0 c.requires ∙ ap (λ (ends : List ℕ). Some (slice_index_or ends c.args.part 0)) (sym same)
