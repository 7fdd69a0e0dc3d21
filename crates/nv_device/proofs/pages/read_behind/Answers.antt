use Rattle.std.proofs.Common.{◌≡◌, ℕ, ◌++◌, ◌∷◌, [], List, sym, subst, ap, ◌∙◌, arith}
use Rattle.nv_mem.specs.declared.piece.Piece.{Piece}
use Rattle.nv_mem.specs.declared.piece.Piece.TheVariants.{Run}
use Rattle.nv_model.specs.Prp.{pages_of, slots_of}
use Rattle.nv_model.specs.Reading.{Spells}
use Rattle.nv_device.specs.Pages.{ArePaged, entries_reading, spells}
use Rattle.nv_device.proofs.PagedLemmas.{paged-few, paged-push, pages-none}
use Rattle.nv_device.proofs.PageLemmas.{behind-list, behind-none, behind-one, on_ok}
use Rattle.nv_device.proofs.pages.read_behind.Goals as goal

pub read_list-requires-clause-aligned : goal.read_list-requires-clause-aligned
read_list-requires-clause-aligned c =
    let n = c.pages_of-pages.ensures.value in
    (behind-list c.args.host.now (pages_of c.args.bytes) c.args.prp2 c.args.bytes c.args.places.now (omega arith) c.requires.spelled).aligned

pub read_list-requires-clause-spelled : goal.read_list-requires-clause-spelled
read_list-requires-clause-spelled c =
    let n : c.pages_of-pages.result ≡ pages_of c.args.bytes = c.pages_of-pages.ensures.value in
    let there = behind-list c.args.host.now (pages_of c.args.bytes) c.args.prp2 c.args.bytes c.args.places.now (omega arith) c.requires.spelled in
    ap (λ (k : ℕ). spells (entries_reading c.args.host.now k (slots_of c.args.prp2) c.args.prp2 c.args.bytes c.args.places.now)) n
    ∙ ap spells (sym there.same) ∙ c.requires.spelled

pub read_list-requires-clause-there : goal.read_list-requires-clause-there
read_list-requires-clause-there c =
    let n : c.pages_of-pages.result ≡ pages_of c.args.bytes = c.pages_of-pages.ensures.value in
    let there = (behind-list c.args.host.now (pages_of c.args.bytes) c.args.prp2 c.args.bytes c.args.places.now (omega arith) c.requires.spelled).there in
    rw n there

pub returns-in-0-clause-read : goal.returns-in-0-clause-read
returns-in-0-clause-read c =
    behind-none c.args.host.now (pages_of c.args.bytes) c.args.prp2 c.args.bytes c.args.places.now
    (let n = c.pages_of-pages.ensures.value in let is = c.in-0.is in omega arith)

pub returns-in-1-clause-read : goal.returns-in-1-clause-read
returns-in-1-clause-read c =
    on_ok c.push.result (c.push.new.self ≡ c.args.places.now ++ Run c.args.prp2 c.args.bytes ∷ []) _
    (λ added.
    let one : pages_of c.args.bytes ≡ 1 = (let n = c.pages_of-pages.ensures.value in let is = c.in-1.is in omega arith) in
    behind-one c.args.host.now (pages_of c.args.bytes) c.args.prp2 c.args.bytes c.args.places.now one (omega arith) (omega arith) c.requires.spelled
    ∙ ap (λ (ps : List Piece). Spells ps) (sym added))
    c.push.ensures.ok

pub returns-in_default-clause-read : goal.returns-in_default-clause-read
returns-in_default-clause-read c =
    let n : c.pages_of-pages.result ≡ pages_of c.args.bytes = c.pages_of-pages.ensures.value in
    let there = behind-list c.args.host.now (pages_of c.args.bytes) c.args.prp2 c.args.bytes c.args.places.now (omega arith) c.requires.spelled in
    on_ok c.read_list.result
    (entries_reading c.args.host.now c.pages_of-pages.result (slots_of c.args.prp2) c.args.prp2 c.args.bytes c.args.places.now ≡ Spells c.read_list.new.places) _
    (λ listed.
    there.same
    ∙ ap (λ (k : ℕ). entries_reading c.args.host.now k (slots_of c.args.prp2) c.args.prp2 c.args.bytes c.args.places.now) (sym n)
    ∙ listed)
    c.read_list.ensures.read

pub returns-in-0-clause-paged : goal.returns-in-0-clause-paged
returns-in-0-clause-paged c = paged-few c.args.places.now (let one = c.requires.first in omega arith)

pub returns-in-1-clause-paged : goal.returns-in-1-clause-paged
returns-in-1-clause-paged c =
    on_ok c.push.result (c.push.new.self ≡ c.args.places.now ++ Run c.args.prp2 c.args.bytes ∷ []) _
    (λ added.
    let A : List Piece → Type 0 = λ ps. ArePaged ps in
    subst A (sym added) (paged-push c.args.places.now (Run c.args.prp2 c.args.bytes) (let one = c.requires.first in omega arith) (pages-none c.args.places.now c.requires.first)))
    c.push.ensures.ok
