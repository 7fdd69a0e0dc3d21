use Rattle.std.proofs.Common.{refl}
use Rattle.nv_world_model.specs.World.{Flying, InDevice, Taken}
use Rattle.nv_laws_sound.proofs.Slots.{completion-room, completions-few, entries-few, entry-room}
use Rattle.nv_laws_sound.proofs.laws.rings.no_ring_overflows.Goals as goal

pub returns-clause-entries : goal.returns-clause-entries
returns-clause-entries c = λ geometry w lane l d is at there. entries-few geometry lane w.host l d (is.of_tags.lanes lane l d at there)

pub returns-clause-completions : goal.returns-clause-completions
returns-clause-completions c = λ geometry w lane l d is at there. completions-few geometry lane w.host l d (is.of_tags.lanes lane l d at there)

pub returns-clause-room_for_an_entry : goal.returns-clause-room_for_an_entry
returns-clause-room_for_an_entry c = λ geometry w lane tag l d command reads is at there found.
    entry-room geometry lane w.host l d (is.of_tags.lanes lane l d at there) tag (Taken command reads) found refl

pub returns-clause-room_for_a_completion : goal.returns-clause-room_for_a_completion
returns-clause-room_for_a_completion c = λ geometry w lane tag l d command share is at there found.
    completion-room geometry lane w.host l d (is.of_tags.lanes lane l d at there) tag (Flying command share InDevice) found refl
