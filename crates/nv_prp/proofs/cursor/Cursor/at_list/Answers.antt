use Rattle.std.proofs.Common.{◌≡◌, ◌*◌, min, refl, sym, ap, ◌∙◌}
use Rattle.nv_mem.specs.GuestMap.{mapped}
use Rattle.nv_model.specs.Prp.{entry_fault, read_entries, slots_of}
use Rattle.nv_prp.specs.declared.cursor.Cursor.{Cursor}
use Rattle.nv_prp.proofs.Cursors.{read_prp2-list, reading-faulty, reading-fine}
use Rattle.nv_prp.proofs.cursor.Cursor.at_list.Goals as goal

pub returns-in-Some-clause-dialogue : goal.returns-in-Some-clause-dialogue
returns-in-Some-clause-dialogue c = λ runs.
    let needed : c.from.result ≡ 8 * min (slots_of c.args.prp2) c.args.pages = c.from.ensures ∙ ap (λ n. 8 * n) c.min.ensures in
    reading-faulty (mapped c.args.map.now.regions) c.at_end.result runs c.in-Some.code _ _ (ap (λ (s : Cursor). s.fault) c.at_end.ensures)
    (c.in-Some.ensures.value ∙ ap (entry_fault (mapped c.args.map.now.regions) 8 c.args.prp2) needed)
    ∙ sym (read_prp2-list (mapped c.args.map.now.regions) c.args.pages c.args.prp2 c.args.bytes runs c.requires.pages)

pub returns-in-None-clause-dialogue : goal.returns-in-None-clause-dialogue
returns-in-None-clause-dialogue c = λ runs.
    let needed : c.from.result ≡ 8 * min (slots_of c.args.prp2) c.args.pages = c.from.ensures ∙ ap (λ n. 8 * n) c.min.ensures in
    reading-fine (mapped c.args.map.now.regions) _ runs _ _ refl
    (c.in-None.ensures.value ∙ ap (entry_fault (mapped c.args.map.now.regions) 8 c.args.prp2) needed)
    (ap (λ n. read_entries (mapped c.args.map.now.regions) c.args.pages (slots_of c.args.prp2) n c.args.bytes runs) c.from-in-None.ensures)
    ∙ sym (read_prp2-list (mapped c.args.map.now.regions) c.args.pages c.args.prp2 c.args.bytes runs c.requires.pages)
