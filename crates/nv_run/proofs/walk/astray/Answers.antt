use Rattle.std.proofs.Common.{◌≡◌, ◌<◌, length, get_or, arith, rules}
use Rattle.std.proofs.lemmas.List.{nil_from_length}
use Rattle.nv_run.proofs.Drives.{AreGone-front, AreGone-ended}
use Rattle.nv_run.proofs.walk.astray.Goals as goal

pub loop-line-preserved : goal.loop-line-preserved
loop-line-preserved c =
    let lines = c.args.lines.now in
    let index = c.loop-line.line-index in
    let item = c.line-item.result in
    let at : item ≡ get_or lines index item = first_of (cc, search rules) in
    let below : index < length lines = first_of (omega arith, search rules) in
    λ gone. c.loop-line.invariant (AreGone-front c.args.guest lines index item c.loop-line.left.now c.in-Some.rest.now below at gone c.in-Some.ensures)

pub returns-then-is_empty : goal.returns-then-is_empty
returns-then-is_empty c = c.loop-line.invariant (AreGone-ended c.args.guest c.args.lines.now c.loop-line.line-index c.loop-line.left.now (first_of (omega arith, search rules)) (nil_from_length _ (first_of (omega arith, search rules))))
