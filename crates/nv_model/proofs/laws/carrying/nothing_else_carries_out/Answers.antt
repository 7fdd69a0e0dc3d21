use Rattle.nv_model.proofs.CarriedOnly.{moved-only, refused-only}
use Rattle.nv_model.proofs.laws.carrying.nothing_else_carries_out.Goals as goal

pub returns-clause-refused : goal.returns-clause-refused
returns-clause-refused c shape p q name t st told = refused-only shape name t p q st told

pub returns-clause-moved : goal.returns-clause-moved
returns-clause-moved c shape p q name t work st = moved-only shape name t p q work st
