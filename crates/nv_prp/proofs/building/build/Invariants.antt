use Rattle.nv_prp.specs.Fits.{host_addresses}
use Rattle.nv_prp.proofs.Builds.{Pieces}
use Rattle.nv_prp.proofs.building.build.Given as goal

abbrev pub invariant-loop-piece : goal.invariant-loop-piece
invariant-loop-piece l = Pieces l.map.regions l.places l.piece-index (host_addresses l.map.regions l.places) l.met
