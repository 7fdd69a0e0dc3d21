use Rattle.std.proofs.lemmas.Result.{IfOk-weaker}
use Rattle.nv_plan.specs.Drawn.{given_of}
use Rattle.nv_plan.proofs.StageReads.{stage-turn, stage-turned}
use Rattle.nv_plan.proofs.draft.Draft.source.Goals as goal

pub returns : goal.returns
returns g c =
    IfOk-weaker c.new.result _ _ (λ source unread.
    let turned = stage-turned (given_of c.args.self.now.given) c.args.self.now.sqe c.args.self.now.stage c.in_ok-places.places source c.requires.sound c.requires.turn c.in_ok-places.ensures unread.own unread.none unread.bytes in
    record { sound = turned.0; left = turned.1 })
    c.new.ensures

pub places-requires : goal.places-requires
places-requires g c = stage-turn c.args.self.now.stage c.requires.turn
