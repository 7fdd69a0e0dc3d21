use Rattle.std.proofs.Common.{◌<◌, ◌==◌, length, sym, ap, ◌∙◌, arith}
use Rattle.std.specs.List.{list_any}
use Rattle.nv_model.specs.Private.{others}
use Rattle.nv_device.proofs.UnitMarks.{any-marked, numbers-fewer, others-marked, within-marked}
use Rattle.nv_device.proofs.units.Units.remove.Goals as goal

pub index_mut-requires : goal.index_mut-requires
index_mut-requires c =
    let within : c.args.number < length c.self.inside.left.items =
    within-marked c.args.number c.self.inside.left.items
    (sym (any-marked c.args.number c.self.inside.left.items) ∙ ap (list_any (λ k. k == c.args.number)) c.self.view_is ∙ c.requires) in
    let len = c.self.inside.left.ok in
    omega arith

pub invariant_of-self : goal.invariant_of-self
invariant_of-self c =
    let here = sym (any-marked c.args.number c.self.inside.left.items) ∙ ap (list_any (λ k. k == c.args.number)) c.self.view_is ∙ c.requires in
    let fewer = numbers-fewer 0 c.args.number c.self.inside.left.items here in
    let count = c.self.invariant in
    omega arith

pub returns : goal.returns
returns c = others-marked c.args.number c.self.inside.left.items ∙ ap (others c.args.number) c.self.view_is
