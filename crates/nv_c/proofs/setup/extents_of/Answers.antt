use Rattle.std.proofs.Common.{◌∙◌, ap}
use Rattle.nv_c.specs.Tables.{extents_of}
use Rattle.nv_c.proofs.Tables.{others_extent_next, own_extent_next}
use Rattle.nv_c.proofs.setup.extents_of.Goals.{then-extent-guest+in_ok-push, else-extent-guest}
use Rattle.nv_c.proofs.setup.extents_of.Goals as goal

pub loop-extent-init : goal.loop-extent-init
unfolding extents_of
loop-extent-init c = c.new-own.ensures.items

pub loop-extent-preserved : goal.loop-extent-preserved
loop-extent-preserved c =
    let i = c.loop-extent.extent-index in
    elim c.if-extent-guest.branch [
      | then-extent-guest+in_ok-push w ↦
          ap (λ own. own.items) w.own-is ∙ w.in_ok-push.ensures.items ∙ own_extent_next c.args.guest c.args.extents.now i _ c.loop-extent.own.items c.loop-extent-test.true w.if-extent-guest.true c.loop-extent.invariant
      | else-extent-guest w ↦
          ap (λ own. own.items) w.own-is ∙ others_extent_next c.args.guest c.args.extents.now i _ c.loop-extent.own.items c.loop-extent-test.true w.if-extent-guest.false c.loop-extent.invariant
    ]
