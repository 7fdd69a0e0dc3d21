use Rattle.std.proofs.Common.{◌≡◌, ◌++◌, ◌∷◌, [], ◌<◌, List, arith, ap, drop, length, subst, sym, ◌∙◌}
use Rattle.std.specs.Prelude.{All}
use Rattle.std.proofs.lemmas.List.{length-append}
use Rattle.nv_mem.specs.declared.piece.Piece.{Piece}
use Rattle.nv_mem.specs.declared.piece.Piece.TheVariants.{Run}
use Rattle.nv_model.specs.Reading.{Spells}
use Rattle.nv_device.specs.Pages.{ArePaged, IsPage}
use Rattle.nv_device.proofs.PageLemmas.{listing-end, listing-more, listing-start, spelled-is}
use Rattle.nv_device.proofs.PagedLemmas.{paged-few, paged-push, pages-none, pages-push}
use Rattle.nv_device.proofs.pages.read_list.Goals as goal

pub loop-pages-init : goal.loop-pages-init
loop-pages-init c = record {
  listing = λ r spelt. listing-start c.args.host.now r c.args.pages c.args.list c.args.bytes c.args.places.now c.requires.aligned spelt c.requires.there c.requires.most c.requires.full;
  some = (let one = c.requires.first in omega arith);
  pages = λ more. pages-none c.args.places.now c.requires.first;
  paged = paged-few c.args.places.now (let one = c.requires.first in omega arith);
}

pub overflow_add-from : goal.overflow_add-from
overflow_add-from c =
    let spelt = spelled-is _ c.requires.spelled in
    let here = c.loop-pages.invariant.listing spelt.0 spelt.1 in
    let there = c.entry_at-entry.ensures.there c.loop-pages.bytes c.loop-pages.places spelt.0 here.spelt in
    let some = c.entry_at-entry.ensures.some in
    omega arith

pub loop-pages-preserved : goal.loop-pages-preserved
loop-pages-preserved c =
    let spelt = spelled-is _ c.requires.spelled in
    let here = c.loop-pages.invariant.listing spelt.0 spelt.1 in
    let most = here.most in
    let full = here.full in
    let len = c.min-len.ensures in
    let is : c.push.new.self ≡ c.loop-pages.places ++ Run c.slot-addr.result c.min-len.result ∷ [] = c.in_ok-push.ensures.ok in
    let some = c.loop-pages.invariant.some in
    let before = c.loop-pages.invariant.pages c.loop-pages-test.true in
    let longer = length-append c.loop-pages.places (Run c.slot-addr.result c.min-len.result ∷ []) in
    let L : List Piece → Type 0 = λ ps. 0 < length ps in
    let P : List Piece → Type 0 = λ ps. All IsPage (drop 1 ps) in
    let A : List Piece → Type 0 = λ ps. ArePaged ps in
    record {
      listing = λ r spelt. listing-more c.args.host.now r c.loop-pages.pages c.loop-pages.slots c.loop-pages.from c.entry_at-entry.result.1 c.entry_at-entry.result.0
          c.loop-pages.bytes c.min-len.result c.slot-addr.result c.loop-pages.places c.push.new.self (c.loop-pages.invariant.listing r spelt) c.loop-pages-test.true
          c.entry_at-entry.ensures c.min-len.ensures c.slot-addr.ensures c.in_ok-push.ensures.ok;
      some = subst L (sym is) (omega arith);
      pages = λ more. subst P (sym is) (pages-push c.loop-pages.places (Run c.slot-addr.result c.min-len.result) some before (omega arith));
      paged = subst A (sym is) (paged-push c.loop-pages.places (Run c.slot-addr.result c.min-len.result) some before);
    }

pub returns-clause-read : goal.returns-clause-read
returns-clause-read c =
    let spelt = spelled-is _ c.requires.spelled in
    spelt.1 ∙ ap (λ (ps : List Piece). Spells ps) (listing-end c.args.host.now spelt.0 c.loop-pages.pages _ _ _ c.loop-pages.places (c.loop-pages.invariant.listing spelt.0 spelt.1) (omega arith))

pub returns-clause-paged : goal.returns-clause-paged
returns-clause-paged c = c.loop-pages.invariant.paged
