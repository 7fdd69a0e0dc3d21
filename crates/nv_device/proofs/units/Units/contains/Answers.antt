use Rattle.std.proofs.Common.{◌≡◌, ◌==◌, ◌≤◌, false, length, get_or, sym, ap, ◌∙◌, arith}
use Rattle.std.proofs.lemmas.Bool.Decides.{nat_tests}
use Rattle.std.proofs.lemmas.List.{get_or_past}
use Rattle.std.specs.List.{list_any}
use Rattle.nv_device.proofs.UnitMarks.{any-marked, got-marked}
use Rattle.nv_device.proofs.units.Units.contains.Goals as goal

pub returns-then-number-len : goal.returns-then-number-len
returns-then-number-len c =
    got-marked c.args.number c.self.inside.left.items c.index.result.now
    (let len = c.self.inside.left.ok in let below = c.if-number-len.true in omega arith) c.index.ensures
    ∙ sym (any-marked c.args.number c.self.inside.left.items) ∙ ap (list_any (λ k. k == c.args.number)) c.self.view_is

pub returns-else-number-len : goal.returns-else-number-len
returns-else-number-len c =
    (let len = c.self.inside.left.ok in
    let beyond : length c.self.inside.left.items ≤ c.args.number = omega arith in
    let past : get_or c.self.inside.left.items c.args.number false ≡ false = get_or_past c.self.inside.left.items c.args.number false beyond in
    grind (arith, nat_tests, past))
    ∙ sym (any-marked c.args.number c.self.inside.left.items) ∙ ap (list_any (λ k. k == c.args.number)) c.self.view_is
