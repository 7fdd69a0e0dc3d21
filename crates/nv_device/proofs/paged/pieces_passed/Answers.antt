use Rattle.std.proofs.Common.{◌≡◌, ◌+◌, ◌-◌, ◌/◌, ◌%◌, ◌<◌, ◌∷◌, List, arith, drop, length, subst, sym}
use Rattle.nv_mem.specs.Places.{piece_len, places_of}
use Rattle.nv_mem.specs.declared.piece.Piece.{Piece}
use Rattle.nv_device.specs.Pages.{ArePaged}
use Rattle.nv_device.proofs.PagedLemmas.{place-behind}
use Rattle.nv_device.proofs.paged.pieces_passed.Goals as goal

pub returns-clause-behind : goal.returns-clause-behind
returns-clause-behind c =
    let is : c.args.pieces.now ≡ c.in-Some.first.now ∷ c.in-Some.pages.now = c.in-Some.ensures.cases.0 in
    let len : c.len_of-first_len.result ≡ piece_len c.in-Some.first.now = c.len_of-first_len.ensures in
    let first_fits = c.if-count-first_len.false in
    let passed_fits = c.if-passed-pages.false in
    let behind = c.args.count - c.len_of-first_len.result in
    let A : List Piece → Type 0 = λ ps. ArePaged ps in
    let R : List Piece → Type 0 = λ ps. drop (behind % 4096) (places_of (drop (1 + behind / 4096) ps)) ≡ drop c.args.count (places_of ps) in
    let within : behind / 4096 < length c.in-Some.pages.now = omega arith in
    let paged : ArePaged (c.in-Some.first.now ∷ c.in-Some.pages.now) = subst A is c.requires in
    subst R (sym is) (place-behind c.in-Some.first.now c.in-Some.pages.now c.args.count (behind / 4096) (behind % 4096)
    (omega arith) (omega arith) (paged (behind / 4096) (omega arith)) (omega arith))
