use Rattle.std.proofs.Common.{slice_get, ap, sym, ◌∙◌}
use Rattle.nv_core.proofs.Endings.{ending-counted, ending-done, ending-effects, is-there}
use Rattle.nv_machine.specs.Doing.{Called}
use Rattle.nv_core.proofs.front.Front.complete.Goals as goal

pub finish-requires-clause-counted : goal.finish-requires-clause-counted
finish-requires-clause-counted c =
    let e = c.in-Ok.ending in
    let given = is-there (slice_get c.args.layout.now.guests e.guest) c.in-Ok.ensures.given in
    ending-counted c.args.layout.now c.args.self.now c.args.lane c.args.tag e c.in-Ok.ensures.ending given.0 given.1 c.requires.kept c.requires.counted

pub returns-clause-side : goal.returns-clause-side
returns-clause-side c =
    let e = c.in-Ok.ending in
    let given = is-there (slice_get c.args.layout.now.guests e.guest) c.in-Ok.ensures.given in
    ap (λ (x : Called). x.now.side) (ending-done c.args.layout.now c.args.self.now c.args.lane c.args.tag e c.in-Ok.ensures.ending given.0 given.1)
    ∙ sym (c.finish.ensures.side c.in-Ok.ensures.ending)

pub returns-clause-reply : goal.returns-clause-reply
returns-clause-reply c =
    let e = c.in-Ok.ending in
    let given = is-there (slice_get c.args.layout.now.guests e.guest) c.in-Ok.ensures.given in
    ap (λ (x : Called). x.reply) (ending-done c.args.layout.now c.args.self.now c.args.lane c.args.tag e c.in-Ok.ensures.ending given.0 given.1)

pub returns-clause-effects : goal.returns-clause-effects
returns-clause-effects c =
    let e = c.in-Ok.ending in
    let given = is-there (slice_get c.args.layout.now.guests e.guest) c.in-Ok.ensures.given in
    ending-effects c.args.layout.now c.args.self.now c.args.lane c.args.tag e c.in-Ok.ensures.ending given.0 given.1 c.finish.result
    (c.finish.ensures.completion c.in-Ok.ensures.ending)
