use Rattle.nv_prp.proofs.Spelling.{built-spells, built-zeros}
use Rattle.nv_prp.proofs.laws.built_prps_spell_the_addresses.Goals as goal

pub returns-clause-zeros : goal.returns-clause-zeros
returns-clause-zeros c = built-zeros

pub returns-clause-spells : goal.returns-clause-spells
returns-clause-spells c = built-spells
