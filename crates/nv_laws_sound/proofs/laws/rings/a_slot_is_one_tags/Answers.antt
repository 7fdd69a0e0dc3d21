use Rattle.nv_laws_sound.proofs.Slots.{completion-one, device-there, entry-one}
use Rattle.nv_laws_sound.proofs.laws.rings.a_slot_is_one_tags.Goals as goal

pub returns-clause-entry : goal.returns-clause-entry
returns-clause-entry c = λ geometry w lane at one other l t u is found here there stands also.
    (let d = device-there geometry w lane l is.of_tags found in
    entry-one geometry lane w.host l d.0 (is.of_tags.lanes lane l d.0 found d.1) at one other t u here there stands also)

pub returns-clause-completion : goal.returns-clause-completion
returns-clause-completion c = λ geometry w lane at one other l t u is found here there stands also.
    (let d = device-there geometry w lane l is.of_tags found in
    completion-one geometry lane w.host l d.0 (is.of_tags.lanes lane l d.0 found d.1) at one other t u here there stands also)
