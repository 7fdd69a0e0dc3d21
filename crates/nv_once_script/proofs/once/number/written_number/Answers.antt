use Rattle.std.proofs.Common.{ap, ◌∙◌}
use Rattle.nv_once_script.specs.OnceNumber.{written, spelled}
use Rattle.nv_once_script.proofs.once.number.written_number.Goals as goal

pub returns-in-Some : goal.returns-in-Some
unfolding written
returns-in-Some c = let h = c.in-Some.ensures.cases in rw h.0 (c.spelled_number.ensures ∙ ap (spelled 16) h.1)

pub returns-in-None : goal.returns-in-None
unfolding written
returns-in-None c = let h = c.in-None.ensures.cases in rw h c.spelled_number-in-None.ensures
