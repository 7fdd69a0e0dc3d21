use Rattle.std.proofs.Common.{◌<◌, ◌≤◌, ◌∙◌, arith, ap, length, slice_get, sym}
use Rattle.std.proofs.lemmas.Option.{slice_get_past}
use Rattle.nv_core.proofs.GroupWorlds.{looked-up}
use Rattle.nv_laws_sound.specs.Side.{Side}
use Rattle.nv_core.specs.Noted.{has_front}
use Rattle.nv_core.proofs.front.Front.waits.Goals as goal

pub returns-then-number-len : goal.returns-then-number-len
returns-then-number-len c =
    let past : length c.self.inside.controllers.items ≤ c.args.guest =
    (let l = c.len.ensures in let n = c.from-number.ensures in let t = c.if-number-len.true in omega arith) in
    sym (ap (has_front c.args.queue) (slice_get_past c.self.inside.controllers.items c.args.guest past))
    ∙ ap (λ (s : Side). has_front c.args.queue (slice_get s.controllers c.args.guest)) c.self.view_is

pub returns : goal.returns
returns c =
    let below : c.from-number.result < length c.self.inside.controllers.items = (let l = c.len.ensures in let t = c.if-number-len.false in omega arith) in
    let found = looked-up c.self.inside.controllers.items c.args.guest c.from-number.result c.index.result.now c.from-number.ensures below c.index.ensures in
    c.waits.ensures ∙ sym (ap (has_front c.args.queue) found)
    ∙ ap (λ (s : Side). has_front c.args.queue (slice_get s.controllers c.args.guest)) c.self.view_is
