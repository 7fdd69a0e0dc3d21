use Rattle.nv_fine.proofs.Owns.{commands-owned, entries-owned}
use Rattle.nv_fine.proofs.Reached.{its-guests}
use Rattle.nv_fine.proofs.laws.each_access_of_the_drive_is_its_guests.Goals as goal

pub returns : goal.returns
returns c = λ s o p zeroes accesses a f accepted sound fresh is then.
    its-guests s.geometry zeroes f p (commands-owned s o accepted sound fresh zeroes accesses f is) (entries-owned s o accepted sound fresh zeroes accesses f is) a then
