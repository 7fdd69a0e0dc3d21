use Rattle.std.proofs.Common.{◌≡◌, ◌++◌, take}
use Rattle.nv_mediator.proofs.opening.namespace_of.Given as goal

-- the first extent, and so many of the others
abbrev pub invariant-loop-extent : goal.invariant-loop-extent
invariant-loop-extent l = l.ns ≡ l.initial.ns ++ take l.extent-index l.rest
