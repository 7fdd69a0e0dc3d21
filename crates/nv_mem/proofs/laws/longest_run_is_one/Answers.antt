use Rattle.nv_mem.proofs.Images.{IsLongestRun-one}
use Rattle.nv_mem.proofs.laws.longest_run_is_one.Goals as goal

pub returns : goal.returns
returns c = IsLongestRun-one
