use Rattle.std.proofs.Common.{sym, subst}
use Rattle.std.proofs.lemmas.List.{length-replicate}
use Rattle.nv_world_model.specs.Step.{replay}
use Rattle.nv_world_model.specs.World.{World, opening_lane, opening_world}
use Rattle.nv_laws_sound.specs.LaidOut.{IsLaidOut}
use Rattle.nv_laws_sound.proofs.LaidOuts.{host-laid-out}
use Rattle.nv_laws_sound.proofs.Openings.{opening-consistent}
use Rattle.nv_laws_sound.proofs.Steps.{replay-consistent}
use Rattle.nv_laws_sound.proofs.phases.Rounds.{slot-tells}
use Rattle.nv_laws_sound.proofs.phases.Steps.{opening-phased, replay-phased}
use Rattle.nv_laws_sound.proofs.laws.phases.a_phase_tag_tells_what_is_to_be_reaped.Goals as goal

pub returns : goal.returns
unfolding opening_world
returns c = λ s host disk events lane l d none clear sound at there.
    let w : World = opening_world host disk s.geometry s.lanes in
    let laid = subst (λ n. IsLaidOut s.host_bytes n s.geometry) (sym (length-replicate s.lanes opening_lane)) (host-laid-out s none sound) in
    let is = replay-consistent s.host_bytes s.geometry events w laid (opening-consistent host disk s.geometry s.lanes) in
    let are = replay-phased s.host_bytes s.geometry events w laid (opening-consistent host disk s.geometry s.lanes) (opening-phased s host disk clear) in
    slot-tells s.geometry (replay s.geometry events w).host lane l.head l.phase d.posted d.phase
    (is.of_tags.lanes lane l d at there).positions.read (are lane l d at there)
