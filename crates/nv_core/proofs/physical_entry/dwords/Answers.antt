use Rattle.std.proofs.Common.{◌∙◌, ap, sym}
use Rattle.nv_core.proofs.MadeParts.{dwords-are, form-is, own}
use Rattle.nv_model.specs.Judge.{Form, form_of}
use Rattle.nv_world_model.specs.ShareArea.{work_dwords}
use Rattle.nv_core.proofs.physical_entry.dwords.Goals as goal

pub returns-in-Flush : goal.returns-in-Flush
returns-in-Flush c = λ share at.
    let p = c.args.plan.now in
    let part = c.args.part in
    let is = c.requires.is_plan in
    let f = form-is p part share is at c.args.opcode c.requires.opcode ∙ ap form_of c.in-Flush.is in
    sym (dwords-are p part share is at ∙ ap (λ (g : Form). work_dwords g p.given.namespace p.job.sqe (own p part share is at)) f)
