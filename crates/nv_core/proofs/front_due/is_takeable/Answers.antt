use Rattle.std.proofs.Common.{◌&&◌, ◌∙◌, Bool, ap, is_some, length, sym}
use Rattle.nv_core.proofs.Dues.{one-takeable}
use Rattle.nv_model.specs.Controller.{front}
use Rattle.nv_model.specs.Memory.{byte_in, image}
use Rattle.nv_world_model.specs.World.{claimed}
use Rattle.nv_core.proofs.front_due.is_takeable.Goals as goal

pub returns-then-waits : goal.returns-then-waits
returns-then-waits g c =
    c.has_free.ensures
    ∙ ap (λ (b : Bool). b && is_some (claimed 1 c.args.ring.now.tags)) (sym (sym c.waits.ensures ∙ c.if-waits.true))
    ∙ one-takeable c.args.given.now.namespace (front c.args.vctl.now c.args.queue) (image c.args.given.now.memory_map.regions (byte_in (g.C.MemoryCell.bytes c.args.host.now)))
    c.args.ring.now.tags (ap length (sym c.ns.ensures) ∙ sym c.len.ensures.value ∙ c.if-len-eq1.true)
