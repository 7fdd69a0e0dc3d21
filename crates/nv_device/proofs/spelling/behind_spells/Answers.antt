use Rattle.std.proofs.Common.{◌≡◌, ◌*◌, ◌&&◌, ◌<◌, min, ℕ, Bool, true, length, sym, ap, ◌∙◌, arith}
use Rattle.std.specs.Prelude.{is_none}
use Rattle.nv_model.specs.Prp.{entry_fault, pages_of, slots_of}
use Rattle.nv_device.specs.Pages.{entries_reading, in_host, spells}
use Rattle.nv_device.proofs.SpellLemmas.{list-there, spells-list, spells-none, spells-one}
use Rattle.nv_device.proofs.spelling.behind_spells.Goals as goal

pub list_spells-requires-clause-there : goal.list_spells-requires-clause-there
list_spells-requires-clause-there c =
    list-there c.args.host.now c.args.prp2 c.pages_of-pages.result (omega arith)
    (ap (λ (n : ℕ). is_none (entry_fault (in_host (length c.args.host.now)) 8 c.args.prp2 (8 * n))) (sym c.min.ensures) ∙ sym c.fits-in_default.ensures ∙ c.if-fits.true)

pub returns-in-0 : goal.returns-in-0
returns-in-0 c = λ pieces. spells-none c.args.host.now (pages_of c.args.bytes) c.args.prp2 c.args.bytes pieces (sym c.pages_of-pages.ensures.value ∙ c.in-0.is)

pub returns-in-1 : goal.returns-in-1
returns-in-1 c = λ pieces.
    let one : pages_of c.args.bytes ≡ 1 = sym c.pages_of-pages.ensures.value ∙ c.in-1.is in
    c.fits.ensures ∙ spells-one c.args.host.now (pages_of c.args.bytes) c.args.prp2 c.args.bytes pieces one (omega arith)

pub returns-then-fits : goal.returns-then-fits
returns-then-fits c = λ pieces.
    let n : c.pages_of-pages.result ≡ pages_of c.args.bytes = c.pages_of-pages.ensures.value in
    let many : 1 < pages_of c.args.bytes = omega arith in
    let fits : is_none (entry_fault (in_host (length c.args.host.now)) 8 c.args.prp2 (8 * min (slots_of c.args.prp2) (pages_of c.args.bytes))) ≡ true =
    ap (λ (k : ℕ). is_none (entry_fault (in_host (length c.args.host.now)) 8 c.args.prp2 (8 * min (slots_of c.args.prp2) k))) (sym n)
    ∙ ap (λ (k : ℕ). is_none (entry_fault (in_host (length c.args.host.now)) 8 c.args.prp2 (8 * k))) (sym c.min.ensures) ∙ sym c.fits-in_default.ensures ∙ c.if-fits.true in
    c.list_spells.ensures pieces
    ∙ ap (λ (k : ℕ). spells (entries_reading c.args.host.now k (slots_of c.args.prp2) c.args.prp2 c.args.bytes pieces)) n
    ∙ sym (spells-list c.args.host.now (pages_of c.args.bytes) c.args.prp2 c.args.bytes pieces many
    ∙ ap (λ (b : Bool). b && spells (entries_reading c.args.host.now (pages_of c.args.bytes) (slots_of c.args.prp2) c.args.prp2 c.args.bytes pieces)) fits)

pub returns-else-fits : goal.returns-else-fits
returns-else-fits c = λ pieces.
    let n : c.pages_of-pages.result ≡ pages_of c.args.bytes = c.pages_of-pages.ensures.value in
    let many : 1 < pages_of c.args.bytes = omega arith in
    let fails : is_none (entry_fault (in_host (length c.args.host.now)) 8 c.args.prp2 (8 * min (slots_of c.args.prp2) (pages_of c.args.bytes))) ≡ c.fits-in_default.result =
    ap (λ (k : ℕ). is_none (entry_fault (in_host (length c.args.host.now)) 8 c.args.prp2 (8 * min (slots_of c.args.prp2) k))) (sym n)
    ∙ ap (λ (k : ℕ). is_none (entry_fault (in_host (length c.args.host.now)) 8 c.args.prp2 (8 * k))) (sym c.min.ensures) ∙ sym c.fits-in_default.ensures in
    c.if-fits.false
    ∙ sym (spells-list c.args.host.now (pages_of c.args.bytes) c.args.prp2 c.args.bytes pieces many
    ∙ ap (λ (b : Bool). b && spells (entries_reading c.args.host.now (pages_of c.args.bytes) (slots_of c.args.prp2) c.args.prp2 c.args.bytes pieces)) (fails ∙ c.if-fits.false))
