use Rattle.std.proofs.Common.{◌≡◌, ◌+◌, length, sum_by, take}
use Rattle.nv_host.proofs.shares.tags_left.Given as goal

abbrev pub invariant-loop-guest : goal.invariant-loop-guest
invariant-loop-guest l = l.left + sum_by (λ g. length g.namespace) (take l.guest-index l.guests) ≡ l.tags
