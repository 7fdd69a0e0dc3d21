use Rattle.nv_laws_machine.proofs.GivenCalls.{given-contained}
use Rattle.nv_laws_sound.proofs.LaidOuts.{host-laid-out}
use Rattle.nv_laws_machine.proofs.laws.the_code_without_memory_is_contained.Goals as goal

pub returns : goal.returns
returns c = λ s given e fetched accepted sound are.
    given-contained s.host_bytes s.lanes s.geometry (host-laid-out s accepted sound) given are e fetched
