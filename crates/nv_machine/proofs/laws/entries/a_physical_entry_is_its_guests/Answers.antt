use Rattle.nv_laws_sound.proofs.LaidOuts.{host-laid-out}
use Rattle.nv_machine.proofs.OwnEntries.{own-entry}
use Rattle.nv_machine.proofs.laws.entries.a_physical_entry_is_its_guests.Goals as goal

pub returns : goal.returns
returns c =
    λ s number given entry share lane tag accepted sound owner below tag_below is some.
    own-entry s.host_bytes s.lanes s.geometry (host-laid-out s accepted sound) number given owner lane tag below tag_below entry share is some
