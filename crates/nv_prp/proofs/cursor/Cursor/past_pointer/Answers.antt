use Rattle.std.proofs.Common.{◌≡◌, ◌*◌, min, refl, ap, ◌∙◌}
use Rattle.nv_mem.specs.GuestMap.{mapped}
use Rattle.nv_model.specs.Prp.{entry_fault, read_entries}
use Rattle.nv_model.specs.Limits.{page}
use Rattle.nv_prp.proofs.Cursors.{reading-faulty, reading-fine}
use Rattle.nv_prp.proofs.cursor.Cursor.past_pointer.Goals as goal

pub returns-in-Some-clause-dialogue : goal.returns-in-Some-clause-dialogue
returns-in-Some-clause-dialogue c = λ runs.
    let needed : c.from.result ≡ 8 * min 512 c.args.self.pages = c.from.ensures ∙ ap (λ n. 8 * n) c.min.ensures in
    reading-faulty (mapped c.args.map.now.regions) _ runs c.in-Some.code _ _ refl
    (c.in-Some.ensures.value ∙ ap (entry_fault (mapped c.args.map.now.regions) page c.args.pointer) needed)

pub returns-in-None-clause-dialogue : goal.returns-in-None-clause-dialogue
returns-in-None-clause-dialogue c = λ runs.
    let needed : c.from.result ≡ 8 * min 512 c.args.self.pages = c.from.ensures ∙ ap (λ n. 8 * n) c.min.ensures in
    reading-fine (mapped c.args.map.now.regions) _ runs _ _ c.requires.sound
    (c.in-None.ensures.value ∙ ap (entry_fault (mapped c.args.map.now.regions) page c.args.pointer) needed)
    (ap (λ n. read_entries (mapped c.args.map.now.regions) c.args.self.pages 512 n c.args.self.bytes runs) c.from-in-None.ensures)
