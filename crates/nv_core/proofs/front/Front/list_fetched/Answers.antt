use Rattle.std.proofs.Common.{◌∙◌, ◌++◌, ◌∷◌, [], ap}
use Rattle.nv_core.proofs.ListReads.{listed-done}
use Rattle.nv_laws_sound.specs.Side.{Side}
use Rattle.nv_model.specs.Transcript.{ReadDone}
use Rattle.nv_world_model.specs.World.{Taken, tag_changed}
use Rattle.nv_core.proofs.front.Front.list_fetched.Goals as goal

pub returns-in_ok-push_read-in-Ok-clause-call : goal.returns-in_ok-push_read-in-Ok-clause-call
returns-in_ok-push_read-in-Ok-clause-call c =
    let s : Side = record { lanes = c.self.inside.lanes.items; tails = c.self.inside.tails.items; controllers = c.self.inside.controllers.items } in
    listed-done c.args.layout.now c.args.lane c.args.tag c.args.addr c.args.len s c.args.self.now c.in-Ok._guest c.from.result c.index_mut-ring.result.now
    c.push_read.new.self c.args.bytes c.self.view_is c.in-Ok.ensures.ok c.from.ensures c.index_mut-ring.ensures.value
    (λ command reads held. c.in_ok-push_read-in-Ok.ensures.ok command reads held
    ∙ ap (λ (r : ReadDone). tag_changed c.args.tag (Taken command (reads ++ r ∷ [])) c.index_mut-ring.result.now) c.new.ensures)
