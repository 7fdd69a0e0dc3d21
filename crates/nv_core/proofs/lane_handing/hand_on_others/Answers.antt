use Rattle.std.proofs.Common.{◌≡◌, ◌+◌, ◌<◌, ◌∙◌, ℕ, List, arith}
use Rattle.std.specs.Vec.{vec_len}
use Rattle.nv_core.proofs.GroupTags.{rising-lower}
use Rattle.nv_core.proofs.HandedParts.{behind-of, drop-front, drop-past, first-of, left-rise, left-taken, no-kept, no-slots, one-kept, one-slots}
use Rattle.nv_core.specs.Handing.{point_of}
use Rattle.nv_laws_sound.proofs.Lists.{slice_get-there}
use Rattle.nv_plan.specs.Made.{shares_made}
use Rattle.nv_tags.specs.Tags.{state_at}
use Rattle.nv_tags.specs.declared.state.TagState.TheVariants as state
use Rattle.nv_world_model.specs.Share.{Share}
use Rattle.nv_core.proofs.lane_handing.hand_on_others.Goals as goal

pub hand_on-requires : goal.hand_on-requires
hand_on-requires c =
    first-of (λ (u : ℕ). state_at c.loop-part.tags u ≡ state.Taken) c.loop-part.left c.pop.new.self c.in-Some.tag c.in-Some.ensures.lowest c.loop-part.invariant.taken

pub keep-requires : goal.keep-requires
keep-requires c =
    let so_far = c.loop-part.invariant in
    let below = first-of (λ (u : ℕ). u < vec_len c.args.kept.now) c.loop-part.left c.pop.new.self c.in-Some.tag c.in-Some.ensures.lowest so_far.below in
    let size = so_far.size in omega arith

pub loop-part-preserved : goal.loop-part-preserved
loop-part-preserved c =
    let so_far = c.loop-part.invariant in
    let first = c.in-Some.ensures.lowest in
    let shares : List Share = shares_made c.args.plan.now in
    let there = slice_get-there shares c.loop-part.part (let end = so_far.end in let t = c.loop-part-test.true in omega arith) in
    let parts = drop-front shares c.loop-part.part there.0 there.1 in
    let nothing = c.is_nothing-nothing.ensures there.0 there.1 in
    record {
      low = (let low = so_far.low in omega arith);
      end = so_far.end;
      size = c.keep.ensures.len ∙ so_far.size;
      rise =
          rising-lower 0 (c.in-Some.tag + 1) c.pop.new.self (omega arith) (left-rise c.loop-part.left c.pop.new.self c.in-Some.tag first so_far.rise);
      taken =
          left-taken c.loop-part.tags c.hand_on.new.tags c.loop-part.left c.pop.new.self c.in-Some.tag (point_of c.is_nothing-nothing.result) first
          so_far.rise c.hand_on.ensures so_far.taken;
      below = behind-of (λ (u : ℕ). u < vec_len c.args.kept.now) c.loop-part.left c.pop.new.self c.in-Some.tag first so_far.below;
      slots_go =
          one-slots c.loop-part.left c.pop.new.self _ _ c.loop-part.tags c.hand_on.new.tags c.in-Some.tag there.0 c.is_nothing-nothing.result
          first parts nothing c.hand_on.ensures
          ∙ so_far.slots_go;
      kept_go =
          one-kept c.loop-part.left c.pop.new.self _ _ c.loop-part.kept.items c.keep.new.kept.items c.in-Some.tag c.loop-part.part there.0 c.part_kept.result c.is_nothing-nothing.result
          first parts nothing c.part_kept.ensures c.keep.ensures.items
          ∙ so_far.kept_go;
    }

pub returns-clause-tags : goal.returns-clause-tags
returns-clause-tags c =
    let so_far = c.loop-part.invariant in
    no-slots c.loop-part.left _ c.loop-part.tags
    (drop-past (shares_made c.args.plan.now) c.loop-part.part (let end = so_far.end in let t = c.loop-part-test.false in omega arith))
    ∙ so_far.slots_go

pub returns-clause-kept : goal.returns-clause-kept
returns-clause-kept c =
    let so_far = c.loop-part.invariant in
    no-kept c.loop-part.left _ c.loop-part.part c.loop-part.kept.items
    (drop-past (shares_made c.args.plan.now) c.loop-part.part (let end = so_far.end in let t = c.loop-part-test.false in omega arith))
    ∙ so_far.kept_go
