use Rattle.nv_laws_sound.proofs.Planned.{plan_over-is}
use Rattle.nv_machine.proofs.OwnStores.{plan-shares, submit-rings, submit-shares}
use Rattle.nv_machine.proofs.laws.entries.what_is_handed_on_is_planned.Goals as goal

pub returns-clause-shares : goal.returns-clause-shares
returns-clause-shares c = λ given entry reads plan over. plan-shares given entry plan (plan_over-is given entry reads plan over)

pub returns-clause-effects : goal.returns-clause-effects
returns-clause-effects c = submit-shares

pub returns-clause-rings : goal.returns-clause-rings
returns-clause-rings c = submit-rings
