use Rattle.std.proofs.Common.{refl, subst}
use Rattle.nv_entry.specs.declared.opcode.IoOpcode.TheVariants.{DatasetManagement}
use Rattle.nv_flat.specs.declared.lists.Listed.{Listed}
use Rattle.nv_flat.specs.Listed.{IsListed, list_reading}
use Rattle.nv_flat.proofs.DoneLemmas.{list-refused}
use Rattle.nv_flat.proofs.controller.FlatController.manage_dataset.Goals as goal

pub returns-in-Refused-clause-ok : goal.returns-in-Refused-clause-ok
returns-in-Refused-clause-ok c =
    let L : Listed → Type 0 = λ l. IsListed l (list_reading c.args.self.now c.args.sqe.now c.args.need) in
    list-refused c.args.self.now c.args.sqe.now DatasetManagement c.args.need c.in-Refused.status c.requires.in_order
    refl (subst L c.in-Refused.is c.in_ok-status.ensures)
