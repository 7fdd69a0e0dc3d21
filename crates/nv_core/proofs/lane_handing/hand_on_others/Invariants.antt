use Rattle.std.proofs.Common.{◌≡◌, ◌<◌, ◌≤◌, All, drop, length}
use Rattle.std.specs.Vec.{vec_len}
use Rattle.nv_core.specs.Handing.{IsRising, parts_kept, parts_slots}
use Rattle.nv_plan.specs.Made.{shares_made}
use Rattle.nv_tags.specs.Tags.{state_at}
use Rattle.nv_tags.specs.declared.state.TagState.TheVariants as state
use Rattle.nv_core.proofs.lane_handing.hand_on_others.Given as goal

-- the parts that are left, handed on from here, are all further parts handed on from the start
abbrev pub invariant-loop-part : goal.invariant-loop-part
invariant-loop-part l =
    record {
      low : 1 ≤ l.part;
      end : l.part-end ≡ length (shares_made l.plan);
      size : vec_len l.kept ≡ vec_len l.initial.kept;
      rise : IsRising 0 l.left;
      taken : All (λ tag. state_at l.tags tag ≡ state.Taken) l.left;
      below : All (λ tag. tag < vec_len l.initial.kept) l.left;
      slots_go : parts_slots l.left (drop l.part (shares_made l.plan)) l.tags ≡ parts_slots l.fn.others (drop 1 (shares_made l.plan)) l.initial.tags;
      kept_go : parts_kept l.left (drop l.part (shares_made l.plan)) l.part l.kept.items
          ≡ parts_kept l.fn.others (drop 1 (shares_made l.plan)) 1 l.initial.kept.items;
    }
