use Rattle.std.proofs.Common.{◌≡◌, arith, refl, subst, sym, ◌∙◌}
use Rattle.nv_world_model.specs.Geometry.{Guest}
use Rattle.nv_plan.specs.Drawn.{given_of}
use Rattle.nv_plan.specs.Resting.{IsOn}
use Rattle.nv_plan.specs.declared.draft.Draft.{Draft}
use Rattle.nv_plan.proofs.Resumed.{under_way-again}
use Rattle.nv_plan.proofs.planning.Planning.resume.Goals as goal

pub invariant_of-result : goal.invariant_of-result
invariant_of-result g c =
    let given : Guest = record { memory_map = c.aside.inside.map; namespace = c.aside.inside.ns; limit = c.aside.inside.limit } in
    let draft : Draft g.row.A.Denot = record { given = record { map = c.args.map; ns = c.args.ns; limit = c.args.limit }; sqe = c.aside.inside.job.sqe; stage = c.in-Some.stage } in
    let map : c.aside.inside.map ≡ c.args.map.now = c.same_map.ensures.0 c.if-not-same_map.false in
    let ns : c.aside.inside.ns ≡ c.args.ns.now = sym c.as_slice.ensures.items ∙ c.same_extents.ensures.0 c.if-not-same_extents.false ∙ c.as_slice-else-not-same_map.ensures.items in
    let limit : c.aside.inside.limit ≡ c.args.limit = omega (arith, c.if-its_limit-limit.false) in
    let own : given_of draft.given ≡ given = cc in
    under_way-again given c.aside.inside.rest c.aside.inside.job draft c.aside.invariant own refl
    (subst (λ (x : Guest). IsOn x c.aside.inside.rest c.in-Some.stage) own c.in-Some.ensures)
