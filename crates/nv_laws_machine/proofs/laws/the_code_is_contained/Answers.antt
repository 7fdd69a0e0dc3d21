use Rattle.nv_laws_machine.proofs.Contained.{calls-machines, each-contained}
use Rattle.nv_laws_sound.proofs.LaidOuts.{host-laid-out}
use Rattle.nv_laws_machine.proofs.laws.the_code_is_contained.Goals as goal

pub returns-clause-machines : goal.returns-clause-machines
returns-clause-machines c s made accepted sound are = calls-machines s.host_bytes s.lanes s.geometry (host-laid-out s accepted sound) made are

pub returns-clause-contained : goal.returns-clause-contained
returns-clause-contained c s made e fetched accepted sound are =
    each-contained s.host_bytes s.lanes s.geometry (host-laid-out s accepted sound) made
    (calls-machines s.host_bytes s.lanes s.geometry (host-laid-out s accepted sound) made are) e fetched
