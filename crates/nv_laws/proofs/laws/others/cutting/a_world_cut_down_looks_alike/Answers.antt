use Rattle.nv_laws.proofs.others.Cuts.{cut-alike}
use Rattle.nv_laws.proofs.laws.others.cutting.a_world_cut_down_looks_alike.Goals as goal

pub returns : goal.returns
returns c = λ host_bytes lanes geometry w number guest laid given. cut-alike host_bytes lanes geometry laid w number guest given
