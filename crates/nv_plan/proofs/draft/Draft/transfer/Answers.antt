use Rattle.std.proofs.Common.{◌≡◌, List, sym, ap, ◌∙◌}
use Rattle.nv_model.specs.Transcript.{Settled}
use Rattle.nv_plan.specs.Drawn.{given_of}
use Rattle.nv_plan.specs.Outline.{Outline, Portion}
use Rattle.nv_plan.specs.declared.kind.PlanKind.{PlanKind}
use Rattle.nv_plan.proofs.PlanCases.{kind_by}
use Rattle.nv_plan.proofs.StageReads.{stage-transfers}
use Rattle.nv_plan.proofs.draft.Draft.transfer.Goals as goal
use Rattle.nv_plan.proofs.draft.Draft.transfer.Goals.{then-fits, else-fits}

pub parted-requires-clause-inside : goal.parted-requires-clause-inside
parted-requires-clause-inside g c = (stage-transfers (given_of c.args.self.now.given) c.args.self.now.sqe c.args.self.now.stage c.in_ok-places.places c.requires.sound c.requires.end c.requires.done c.in_ok-places.ensures).inside

pub parted-requires-clause-len : goal.parted-requires-clause-len
parted-requires-clause-len g c = (stage-transfers (given_of c.args.self.now.given) c.args.self.now.sqe c.args.self.now.stage c.in_ok-places.places c.requires.sound c.requires.end c.requires.done c.in_ok-places.ensures).len

pub parted-requires-clause-some : goal.parted-requires-clause-some
parted-requires-clause-some g c = (stage-transfers (given_of c.args.self.now.given) c.args.self.now.sqe c.args.self.now.stage c.in_ok-places.places c.requires.sound c.requires.end c.requires.done c.in_ok-places.ensures).some

pub parted-requires-clause-mapped : goal.parted-requires-clause-mapped
parted-requires-clause-mapped g c = (stage-transfers (given_of c.args.self.now.given) c.args.self.now.sqe c.args.self.now.stage c.in_ok-places.places c.requires.sound c.requires.end c.requires.done c.in_ok-places.ensures).all_mapped

pub returns : goal.returns
returns g c = λ reads.
    let kind : c.if-fits.kind ≡ kind_by c.fits.result = elim c.if-fits.branch [ then-fits w ↦ w.kind-is ∙ ap kind_by (sym w.if-fits.true) | else-fits w ↦ w.kind-is ∙ ap kind_by (sym w.if-fits.false) ] in
    ap (λ (o : Outline). Settled o) (c.new.ensures
    ∙ ap (λ (k : PlanKind). record { kind = k; portions = c.in_ok-portions.portions }) kind
    ∙ ap (λ (ps : List Portion). record { kind = kind_by c.fits.result; portions = ps }) c.in_ok-portions.ensures)
    ∙ (stage-transfers (given_of c.args.self.now.given) c.args.self.now.sqe c.args.self.now.stage c.in_ok-places.places c.requires.sound c.requires.end c.requires.done c.in_ok-places.ensures).says c.fits.result reads c.fits.ensures
