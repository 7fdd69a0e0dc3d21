use Rattle.std.proofs.Common.{arith, map}
use Rattle.nv_replay_script.specs.ReplaySetUp.{guest_value}
use Rattle.nv_run.proofs.Openings.{lanes-few, lanes-some}
use Rattle.nv_run.proofs.opening.open.Goals as goal

pub overflow_cast-lanes : goal.overflow_cast-lanes
overflow_cast-lanes c =
    let few = lanes-few c.args.script.sizes (map guest_value c.args.script.guests.items) _ c.in_ok-world.ensures.opened c.in_ok-world.ensures.accepted in
    omega (arith, few)

pub guests_with-requires : goal.guests_with-requires
guests_with-requires c =
    lanes-some c.args.script.sizes (map guest_value c.args.script.guests.items) _ c.in_ok-world.ensures.opened c.in_ok-world.ensures.accepted
