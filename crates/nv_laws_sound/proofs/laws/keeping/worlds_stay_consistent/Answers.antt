use Rattle.std.proofs.Common.{sym, subst}
use Rattle.std.proofs.lemmas.List.{length-replicate}
use Rattle.nv_world_model.specs.World.{World, opening_lane, opening_world}
use Rattle.nv_laws_sound.specs.LaidOut.{IsLaidOut}
use Rattle.nv_laws_sound.proofs.LaidOuts.{host-laid-out}
use Rattle.nv_laws_sound.proofs.Openings.{opening-consistent}
use Rattle.nv_laws_sound.proofs.Steps.{replay-consistent}
use Rattle.nv_laws_sound.proofs.laws.keeping.worlds_stay_consistent.Goals as goal

pub returns-clause-events : goal.returns-clause-events
returns-clause-events c = replay-consistent

pub returns-clause-from_start : goal.returns-clause-from_start
unfolding opening_world
returns-clause-from_start c = λ s host disk events none sound.
    let w : World = opening_world host disk s.geometry s.lanes in
    replay-consistent s.host_bytes s.geometry events w
    (subst (λ n. IsLaidOut s.host_bytes n s.geometry) (sym (length-replicate s.lanes opening_lane)) (host-laid-out s none sound))
    (opening-consistent host disk s.geometry s.lanes)
