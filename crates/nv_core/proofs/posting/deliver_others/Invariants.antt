use Rattle.std.proofs.Common.{◌≡◌, ℕ, All, length, slice_get}
use Rattle.nv_core.specs.Ending.{IsReadPart, tags_delivered}
use Rattle.nv_model.specs.Memory.{byte_in}
use Rattle.nv_world_model.specs.Area.{bounce_page}
use Rattle.nv_core.proofs.posting.deliver_others.Given as goal

-- what the tags that are left deliver from here on, all others deliver from the start on
abbrev pub invariant-loop-tag : goal.invariant-loop-tag
invariant-loop-tag g l =
    record {
      len : length (g.C.MemoryCell.bytes l.host) ≡ length (g.C.MemoryCell.bytes l.initial.host);
      goes : tags_delivered l.place.mediator l.place.lane l.tags l.ring l.map.regions (byte_in (g.C.MemoryCell.bytes l.host))
          ≡ tags_delivered l.place.mediator l.place.lane l.initial.tags l.ring l.map.regions (byte_in (g.C.MemoryCell.bytes l.initial.host));
      parts : All (λ (t : ℕ). IsReadPart (bounce_page l.place.mediator l.place.lane t) (length (g.C.MemoryCell.bytes l.initial.host)) l.map.regions (slice_get l.ring.tags t)) l.tags;
    }

abbrev pub decreases-loop-tag : goal.decreases-loop-tag
decreases-loop-tag g l = length l.tags
