use Rattle.std.proofs.Common.{ap, ◌∙◌}
use Rattle.nv_mem.specs.GuestMap.{mapped}
use Rattle.nv_model.specs.Prp.{entry_fault}
use Rattle.nv_prp.specs.declared.cursor.Cursor.{Cursor}
use Rattle.nv_prp.proofs.Cursors.{reading-faulty}
use Rattle.nv_prp.proofs.cursor.Cursor.start.Goals as goal

pub returns-in-Some-clause-dialogue : goal.returns-in-Some-clause-dialogue
returns-in-Some-clause-dialogue c =
    reading-faulty (mapped c.args.map.now.regions) c.at_end.result c.args.runs.now c.in-Some.code _ _ (ap (λ (s : Cursor). s.fault) c.at_end.ensures)
    (c.in-Some.ensures.value ∙ ap (entry_fault (mapped c.args.map.now.regions) 4 c.args.prp1) c.min-len.ensures)
