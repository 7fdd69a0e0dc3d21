use Rattle.std.proofs.Common.{◌∙◌, sym, ap}
use Rattle.nv_mem.specs.GuestMap.{mapped}
use Rattle.nv_model.specs.Prp.{pages_of, read_prp2}
use Rattle.nv_prp.specs.declared.cursor.Cursor.{Cursor}
use Rattle.nv_prp.proofs.Cursors.{read_prp2-entry, reading-end}
use Rattle.nv_prp.proofs.cursor.Cursor.behind_prp1.Goals as goal

pub returns-then-pages-eq0-clause-dialogue : goal.returns-then-pages-eq0-clause-dialogue
returns-then-pages-eq0-clause-dialogue c =
    reading-end (mapped c.args.map.now.regions) c.at_end.result c.args.runs.now
    (ap (λ (s : Cursor). s.fault) c.at_end.ensures) (ap (λ (s : Cursor). s.pages) c.at_end.ensures)
    ∙ ap (λ n. read_prp2 (mapped c.args.map.now.regions) n c.args.prp2 c.args.bytes c.args.runs.now) (sym c.if-pages-eq0.true)

pub returns-then-pages-eq1-clause-dialogue : goal.returns-then-pages-eq1-clause-dialogue
returns-then-pages-eq1-clause-dialogue c =
    c.past_entry.ensures.dialogue
    ∙ read_prp2-entry (mapped c.args.map.now.regions) (pages_of c.args.bytes) c.args.prp2 c.args.bytes c.args.runs.now c.if-pages-eq1.true
