use Rattle.std.proofs.Common.{◌≡◌, ◌+◌, sum, sum_by, take}
use Rattle.nv_host.specs.Shares.{most_needed}
use Rattle.nv_world_model.specs.Area.{tag_count}
use Rattle.nv_host.proofs.host_mediator.HostMediator.unshared.Given as goal

-- the shares of the guests up to here are counted
abbrev pub invariant-loop-guest : goal.invariant-loop-guest
invariant-loop-guest l = l.left + (sum_by most_needed (take l.guest l.self.setup.geometry.guests) + sum (take l.guest l.self.spare)) ≡ tag_count
