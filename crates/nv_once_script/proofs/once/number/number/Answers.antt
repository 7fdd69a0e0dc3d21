use Rattle.std.proofs.Common.{refl}
use Rattle.nv_once_script.specs.OnceNumber.{number_of}
use Rattle.nv_once_script.proofs.once.number.number.Goals as goal

pub returns-in-None : goal.returns-in-None
unfolding number_of
returns-in-None c = rw c.ok_or.ensures.value (rw c.written_number.ensures (rw c.text.ensures refl))
