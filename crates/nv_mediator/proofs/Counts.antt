-- No queue of a guest has more taken commands than there are tags.
use Rattle.std.proofs.Common.{◌≡◌, ℕ, zero, suc, ◌*◌, ◌/◌, ◌%◌, ◌≤◌, inl, inr, Bool, true, false, length, Option, Some, None, arith, ap}
use Rattle.std.proofs.lemmas.Bool.{cases_lt}
use Rattle.std.proofs.lemmas.Option.{slice_get_past, slice_get_within}
use Rattle.std.specs.Prelude.{◌==◌}
use Rattle.nv_core.specs.Front.{CountMore}
use Rattle.nv_core.specs.State.{CountsMore, world_of}
use Rattle.nv_entry.specs.Status.{bit}
use Rattle.nv_laws_sound.proofs.LaidOuts.{accepted, sizes-of}
use Rattle.nv_laws_sound.proofs.Lists.{slice_get-there}
use Rattle.nv_laws_sound.specs.Counted.{IsCounted, command_in, commands}
use Rattle.nv_model.specs.Private.{Bag, Taken as Member}
use Rattle.nv_model.specs.Running.{count_below, one_of}
use Rattle.nv_mediator.specs.Hosted.{Hosted, IsHosted, setup_of}
use Rattle.nv_world_model.specs.Area.{tag_count}
use Rattle.nv_world_model.specs.Geometry.{Geometry}
use Rattle.nv_world_model.specs.SetUp.{most_lanes, script_limits}
use Rattle.nv_world_model.specs.World.{Lane, World, tag_in}

one-most : (queue : ℕ) (t : Option Member) → one_of queue t ≤ 1
one-most queue None = omega arith
one-most queue (Some t) = bit-most (t.queue == queue)
  where
    bit-most : (b : Bool) → bit b ≤ 1
    bit-most true = omega arith
    bit-most false = omega arith

-- a count of so many names, of which those from some on are no commands
record IsFew (count names bound : ℕ) : Type 0 where
  pub few : count ≤ names
  pub below : count ≤ bound

count-few : (bag : Bag) (queue names : ℕ) → ((name : ℕ) → names ≤ name → bag name ≡ None) → (bound : ℕ)
    → IsFew (count_below bag queue bound) names bound
count-few bag queue names none zero = record { few = omega arith; below = omega arith }
count-few bag queue names none (suc name) = elim (cases_lt name names) [
  | inl early ↦
      (let one = one-most queue (bag name) in
      let before = (count-few bag queue names none name).below in
      record { few = omega (arith, one, before, early); below = omega (arith, one, before) })
  | inr late ↦
      (let same : one_of queue (bag name) ≡ 0 = ap (one_of queue) (none name late) in
      let few = (count-few bag queue names none name).few in
      let below = (count-few bag queue names none name).below in
      record { few = omega (arith, same, few); below = omega (arith, same, below) })
]

-- no name behind the tags of all lanes is a command's
none-behind : (w : World) (number name : ℕ) → tag_count * length w.lanes ≤ name → commands w number name ≡ None
unfolding commands
none-behind w number name behind =
    ap (λ (l : Option Lane). command_in (tag_in l (name % tag_count)) (name % tag_count) number) (slice_get_past w.lanes (name / tag_count) (omega arith))

-- with at most eight lanes one more taken command of each queue can be counted
pub counts-few : (geometry : Geometry) (w : World) (guest : ℕ) → length w.lanes ≤ most_lanes → length w.controllers ≡ length geometry.guests
    → IsCounted geometry w → CountMore guest w.controllers
counts-few geometry w guest few many is c queue found =
    let below = slice_get_within w.controllers guest c found in
    let given = slice_get-there geometry.guests guest (omega (arith, many, below)) in
    let counted = (is.running guest given.0 c given.1 found).counted in
    let most = (count-few (commands w guest) queue (tag_count * length w.lanes) (none-behind w guest) counted.bound).few in
    let same = counted.count queue in
    omega (arith, few, most, same)

pub counts-more : (h : Hosted) (guest : ℕ) → IsHosted h → CountsMore guest h.state
counts-more h guest is =
    counts-few h.geometry (world_of h.state) guest (sizes-of script_limits (setup_of h) (accepted (setup_of h) is.accepted).sizes).few_lanes
    is.of.consistent.of_tags.controllers is.counted
