use Rattle.std.proofs.Common.{Some, sym, ap, ◌∙◌}
use Rattle.nv_flat.proofs.ListLemmas.{reserved-refused}
use Rattle.nv_flat.proofs.controller.FlatController.read_list.Goals as goal

pub returns-in-Reserved : goal.returns-in-Reserved
returns-in-Reserved c =
    reserved-refused c.args.self.now c.args.sqe.now c.args.need (sym c.data_pointer.ensures ∙ c.in-Reserved.is)
    ∙ ap Some (sym c.refused.ensures)
