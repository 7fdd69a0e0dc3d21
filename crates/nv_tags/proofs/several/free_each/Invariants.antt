use Rattle.std.proofs.Common.{◌≡◌, length}
use Rattle.nv_tags.specs.Numbers.{ByGuest, ByQueue}
use Rattle.nv_tags.specs.Tags.{set_each}
use Rattle.nv_tags.specs.declared.state.TagState.TheVariants as state
use Rattle.nv_tags.proofs.Owners.{AreGoing}
use Rattle.nv_tags.proofs.several.free_each.Given as goal

-- the tags that are left, freed from here, are all tags freed from the start
abbrev pub invariant-loop-tag : goal.invariant-loop-tag
invariant-loop-tag l =
    record {
      size : length l.states ≡ 64;
      owned_are : length l.owned ≡ 16;
      queued_are : length l.queued ≡ 16;
      goes : set_each l.left state.Free l.states ≡ set_each l.initial.left state.Free l.initial.states;
      owned_go : AreGoing ByGuest l.left l.claims l.owned l.initial.left l.initial.owned;
      queued_go : AreGoing ByQueue l.left l.claims l.queued l.initial.left l.initial.queued;
    }

abbrev pub decreases-loop-tag : goal.decreases-loop-tag
decreases-loop-tag l = length l.left
