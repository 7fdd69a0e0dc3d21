use Rattle.std.proofs.Common.{◌∙◌, ap}
use Rattle.nv_c.specs.Tables.{regions_of}
use Rattle.nv_c.proofs.Tables.{others_region_next, own_region_next}
use Rattle.nv_c.proofs.setup.regions_of.Goals.{then-region-guest+in_ok-push, else-region-guest}
use Rattle.nv_c.proofs.setup.regions_of.Goals as goal

pub loop-region-init : goal.loop-region-init
unfolding regions_of
loop-region-init c = c.new-own.ensures.items

pub loop-region-preserved : goal.loop-region-preserved
loop-region-preserved c =
    let i = c.loop-region.region-index in
    elim c.if-region-guest.branch [
      | then-region-guest+in_ok-push w ↦
          ap (λ own. own.items) w.own-is ∙ w.in_ok-push.ensures.items ∙ own_region_next c.args.guest c.args.regions.now i _ c.loop-region.own.items c.loop-region-test.true w.if-region-guest.true c.loop-region.invariant
      | else-region-guest w ↦
          ap (λ own. own.items) w.own-is ∙ others_region_next c.args.guest c.args.regions.now i _ c.loop-region.own.items c.loop-region-test.true w.if-region-guest.false c.loop-region.invariant
    ]
