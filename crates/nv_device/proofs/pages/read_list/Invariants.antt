use Rattle.std.proofs.Common.{◌≡◌, ◌<◌, List, drop, length}
use Rattle.std.specs.Prelude.{All}
use Rattle.nv_mem.specs.declared.piece.Piece.{Piece}
use Rattle.nv_model.specs.Prp.{slots_of}
use Rattle.nv_model.specs.Reading.{Spells}
use Rattle.nv_device.specs.Pages.{ArePaged, IsPage, entries_reading}
use Rattle.nv_device.proofs.PageLemmas.{IsListing}
use Rattle.nv_device.proofs.pages.read_list.Given as goal

abbrev pub invariant-loop-pages : goal.invariant-loop-pages
invariant-loop-pages l = record {
  listing : (r : List Piece) → entries_reading l.host l.fn.pages (slots_of l.list) l.list l.fn.bytes l.fn.places ≡ Spells r
      → IsListing l.host r l.pages l.slots l.from l.bytes l.places;
  some : 0 < length l.places;
  pages : 0 < l.pages → All IsPage (drop 1 l.places);
  paged : ArePaged l.places;
}

abbrev pub decreases-loop-pages : goal.decreases-loop-pages
decreases-loop-pages l = l.pages
