use Rattle.std.proofs.Common.{◌≡◌, length, map}
use Rattle.std.specs.Vec.Iter.{into_iter_items, into_iter_len}
use Rattle.nv_replay_script.specs.ReplaySetUp.{guest_value}
use Rattle.nv_replay.specs.Opening.{guests_from}
use Rattle.nv_replay.proofs.Guests.{behind}
use Rattle.nv_replay.proofs.opening.map_guests.Given as goal

-- the guests that are left, behind those that were made, are all
abbrev pub invariant-loop-guest : goal.invariant-loop-guest
invariant-loop-guest l =
    (guests_from l.host 0 (map guest_value l.fn.guests.items)
    ≡ behind l.made.items (guests_from l.host (length l.made.items) (map guest_value (into_iter_items l.guest-iterator))))
    × (length (into_iter_items l.guest-iterator) ≡ into_iter_len l.guest-iterator)
    × (goal.iterator-loop-guest).can_next l.guest-iterator
    × (goal.iterator-loop-guest).is_finite l.guest-iterator
