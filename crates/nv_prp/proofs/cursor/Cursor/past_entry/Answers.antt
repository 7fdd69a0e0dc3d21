use Rattle.std.proofs.Common.{◌<◌, refl, ap, ◌∙◌, arith}
use Rattle.nv_mem.specs.GuestMap.{mapped}
use Rattle.nv_model.specs.Prp.{entry_fault}
use Rattle.nv_model.specs.Limits.{page}
use Rattle.nv_prp.proofs.Cursors.{read_entries-behind, reading-faulty, reading-fine}
use Rattle.nv_prp.proofs.cursor.Cursor.past_entry.Goals as goal

pub returns-in-Some-clause-dialogue : goal.returns-in-Some-clause-dialogue
returns-in-Some-clause-dialogue c =
    reading-faulty (mapped c.args.map.now.regions) _ c.args.runs.now c.in-Some.code _ _ refl
    (c.in-Some.ensures.value ∙ ap (entry_fault (mapped c.args.map.now.regions) page c.args.addr) c.min-len.ensures)

pub returns-in-None-clause-dialogue : goal.returns-in-None-clause-dialogue
returns-in-None-clause-dialogue c =
    let some : 0 < c.min-len.result = let full = c.requires.in_range.pages in let is = c.min-len.ensures in omega arith in
    reading-fine (mapped c.args.map.now.regions) _ c.push.new.self _ _ c.requires.sound
    (c.in-None.ensures.value ∙ ap (entry_fault (mapped c.args.map.now.regions) page c.args.addr) c.min-len.ensures)
    (read_entries-behind
    (mapped c.args.map.now.regions) _ _ _ c.args.self.bytes c.args.addr c.min-len.result c.args.runs.now c.push.new.self c.min-len.ensures some c.push.ensures)
