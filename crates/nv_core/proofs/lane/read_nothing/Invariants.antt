use Rattle.std.proofs.Common.{◌≡◌, ◌<◌, All, [], length}
use Rattle.std.specs.Vec.{vec_len}
use Rattle.nv_core.specs.declared.progress.Progress.TheVariants as progress
use Rattle.nv_tags.specs.Tags.{set_each}
use Rattle.nv_core.proofs.lane.read_nothing.Given as goal

-- the tags that are left, set from here, are all tags set from the start
abbrev pub invariant-loop-tag : goal.invariant-loop-tag
invariant-loop-tag l =
    record {
      size : vec_len l.kept ≡ vec_len l.initial.kept;
      below : All (λ tag. tag < vec_len l.initial.kept) l.left;
      goes : set_each l.left (progress.Reading []) l.kept.items ≡ set_each l.initial.left (progress.Reading []) l.initial.kept.items;
    }

abbrev pub decreases-loop-tag : goal.decreases-loop-tag
decreases-loop-tag l = length l.left
