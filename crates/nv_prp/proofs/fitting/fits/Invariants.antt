use Rattle.std.proofs.Common.{◌≡◌, drop}
use Rattle.nv_prp.specs.Fits.{places_fit, places_fit_behind}
use Rattle.nv_prp.proofs.fitting.fits.Given as goal

abbrev pub invariant-loop-piece : goal.invariant-loop-piece
invariant-loop-piece l =
    places_fit l.map.regions l.places ≡ places_fit_behind l.map.regions l.end (drop l.piece-index l.piece-items)
