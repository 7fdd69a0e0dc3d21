use Rattle.std.proofs.Common.{◌≡◌, length}
use Rattle.nv_tags.specs.Tags.{set_each}
use Rattle.nv_tags.specs.declared.state.TagState.TheVariants as state
use Rattle.nv_tags.proofs.several.take_each.Given as goal

-- the tags that are left, taken from here, are all tags taken from the start
abbrev pub invariant-loop-tag : goal.invariant-loop-tag
invariant-loop-tag l =
    record {
      states_are : length l.states ≡ 64;
      claims_are : length l.claims ≡ 64;
      leaders_are : length l.leaders ≡ 64;
      states_go : set_each l.left state.Taken l.states ≡ set_each l.initial.left state.Taken l.initial.states;
      claims_go : set_each l.left l.claim l.claims ≡ set_each l.initial.left l.claim l.initial.claims;
      leaders_go : set_each l.left l.leader l.leaders ≡ set_each l.initial.left l.leader l.initial.leaders;
    }

abbrev pub decreases-loop-tag : goal.decreases-loop-tag
decreases-loop-tag l = length l.left
