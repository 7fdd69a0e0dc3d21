use Rattle.std.proofs.Common.{◌≡◌, ◌∙◌, Some, length, arith, sym}
use Rattle.nv_core.proofs.Handed.{one-host, one-tail}
use Rattle.nv_laws_sound.proofs.Lists.{slice_get-there}
use Rattle.nv_model.specs.Memory.{byte_in}
use Rattle.nv_plan.specs.Made.{shares_made}
use Rattle.nv_world_model.specs.World.{group_in}
use Rattle.nv_core.proofs.handing.hand_all.Goals as goal

pub hand_part-requires-clause-room : goal.hand_part-requires-clause-room
hand_part-requires-clause-room g c = c.requires.room c.args.place.tag c.requires.waits.below

pub returns-then-parts-eq1-clause-bytes : goal.returns-then-parts-eq1-clause-bytes
returns-then-parts-eq1-clause-bytes g c =
    let p = c.args.plan.now in
    let place = c.args.place in
    let waits = c.requires.waits in
    let many : length (shares_made p) ≡ 1 = sym c.parts.ensures.value ∙ c.if-parts-eq1.true in
    let s = slice_get-there (shares_made p) 0 (omega (arith, many)) in
    c.hand_part.ensures.bytes s.0 s.1
    ∙ one-host (group_in (Some c.args.ring.now) place.tag) waits.others place.tag (shares_made p) s.0 waits.first many s.1
    p.given p.job.sqe place.mediator place.lane c.args.tail.now (byte_in (g.C.MemoryCell.bytes c.args.host.now))

pub returns-then-parts-eq1-clause-tail : goal.returns-then-parts-eq1-clause-tail
returns-then-parts-eq1-clause-tail g c =
    let p = c.args.plan.now in
    let waits = c.requires.waits in
    let many : length (shares_made p) ≡ 1 = sym c.parts.ensures.value ∙ c.if-parts-eq1.true in
    let s = slice_get-there (shares_made p) 0 (omega (arith, many)) in
    c.hand_part.ensures.tail s.0 s.1
    ∙ one-tail (group_in (Some c.args.ring.now) c.args.place.tag) waits.others c.args.place.tag (shares_made p) s.0 waits.first many s.1 c.args.tail.now
