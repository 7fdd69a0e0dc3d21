use Rattle.std.proofs.Common.{◌∙◌, sym}
use Rattle.nv_host.proofs.Queues.{admin-quiet}
use Rattle.nv_mediator.specs.Hosted.{hosted_world}
use Rattle.nv_c.proofs.working.is_admin_due.Goals as goal

pub returns-else-is_noted : goal.returns-else-is_noted
returns-else-is_noted c = c.if-is_noted.false ∙ sym (admin-quiet c.args.mediator.now.geometry (hosted_world c.args.mediator.now) c.args.guest (c.is_noted.ensures c.if-is_noted.false))
