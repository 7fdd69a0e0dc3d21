use Rattle.std.proofs.Common.{◌≡◌, ◌<◌, ℕ, length, get_or, refl, ◌∙◌, subst, arith, rules}
use Rattle.nv_run.specs.Driving.{Grows, IsGone}
use Rattle.nv_run.proofs.Drives.{AreGone-all, AreGone-more, AreGone-none}
use Rattle.nv_run.proofs.driven.drive.Goals as goal

pub loop-line-init : goal.loop-line-init
loop-line-init g c = (AreGone-none c.args.port.guest c.args.lines.now c.args.port.calls, refl)

pub loop-line-preserved : goal.loop-line-preserved
loop-line-preserved g c =
    let lines = c.args.lines.now in
    let index = c.loop-line.line-index in
    let item = c.line-item.result in
    let at : item ≡ get_or lines index item = first_of (cc, search rules) in
    let below : index < length lines = first_of (omega arith, search rules) in
    let invariant = c.loop-line.invariant in
    let grows : Grows c.loop-line.port.calls c.go_through.new.port.calls (IsGone c.args.port.guest item.task) =
    subst (λ (n : ℕ). Grows c.loop-line.port.calls c.go_through.new.port.calls (IsGone n item.task)) invariant.1 c.in_default.ensures.ok in (
      λ none. AreGone-more c.args.port.guest lines index item c.loop-line.port.calls c.go_through.new.port.calls below at (invariant.0 none) grows,
      c.go_through.ensures.guest ∙ invariant.1,
    )

pub returns-clause-through : goal.returns-clause-through
returns-clause-through g c =
    λ fresh. AreGone-all c.args.port.guest c.args.lines.now c.loop-line.line-index c.loop-line.port.calls (first_of (omega arith, search rules)) (c.loop-line.invariant.0 fresh)
