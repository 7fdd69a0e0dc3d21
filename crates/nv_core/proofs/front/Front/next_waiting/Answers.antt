use Rattle.std.proofs.Common.{◌<◌, ◌≤◌, ◌∙◌, false, arith, ap, length, slice_get, subst, sym}
use Rattle.std.proofs.lemmas.Option.{slice_get_past}
use Rattle.nv_core.proofs.GroupWorlds.{looked-up}
use Rattle.nv_laws_sound.specs.Side.{Side}
use Rattle.nv_core.specs.Noted.{has_front}
use Rattle.nv_vctl.specs.Next.{IsNext}
use Rattle.nv_core.proofs.front.Front.next_waiting.Goals as goal

pub returns-then-number-len : goal.returns-then-number-len
returns-then-number-len c =
    let past : length c.self.inside.controllers.items ≤ c.args.guest =
    (let l = c.len.ensures in let n = c.from-number.ensures in let t = c.if-number-len.true in omega arith) in
    record {
      passed = λ queue from below.
          ap (λ (s : Side). has_front queue (slice_get s.controllers c.args.guest)) (sym c.self.view_is)
          ∙ ap (has_front queue) (slice_get_past c.self.inside.controllers.items c.args.guest past);
      here = λ below. absurd (omega (arith, below));
      within = omega arith;
    }

pub returns : goal.returns
returns c =
    let below : c.from-number.result < length c.self.inside.controllers.items = (let l = c.len.ensures in let t = c.if-number-len.false in omega arith) in
    let found = looked-up c.self.inside.controllers.items c.args.guest c.from-number.result c.index.result.now c.from-number.ensures below c.index.ensures in
    subst (λ (s : Side). IsNext (λ queue. has_front queue (slice_get s.controllers c.args.guest)) c.args.from 9 c.next_waiting.result) c.self.view_is
    (subst (λ o. IsNext (λ queue. has_front queue o) c.args.from 9 c.next_waiting.result) (sym found) c.next_waiting.ensures)
