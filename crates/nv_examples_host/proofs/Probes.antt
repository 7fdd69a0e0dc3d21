-- What shows that two things are not the same, and what follows of events in a row
use Rattle.std.proofs.Common.{◌≡◌, ℕ, ◌+◌, Bool, true, false, ◌==◌, ◌&&◌, List, [], ◌∷◌, length, slice_get, Option, Some, None, ap, arith}
use Rattle.nv_examples_host.specs.Scenes.{one_more}
use Rattle.nv_host.specs.Closing.{Fails, GivesUp, IsEnding, Reads, Takes}
use Rattle.nv_host.specs.InRow.{AreMadeBy, LeadsBy}
use Rattle.nv_model.specs.Controller.{Controller}
use Rattle.nv_world_model.specs.World.{Answered, Ended, Flying, Free, InDevice, Lane, Queued, Tag, Taken, tag_in}
use Rattle.nv_world_model.specs.declared.event.Event.{Event}
use Rattle.nv_world_model.specs.declared.event.Event.TheVariants as event

-- whether a tag's part is in the submission ring
abbrev in_ring : Option Tag → Bool
in_ring None = false
in_ring (Some Free) = false
in_ring (Some (Taken command reads)) = false
in_ring (Some (Flying command share (Queued slot))) = true
in_ring (Some (Flying command share InDevice)) = false
in_ring (Some (Flying command share (Answered slot))) = false
in_ring (Some (Ended command st share)) = false

-- of tag 6 of the first lane
abbrev pub is_sixth_in_ring : List Lane → Bool
is_sixth_in_ring ls = in_ring (tag_in (slice_get ls 0) 6)

-- the phase tag that the first lane wants
abbrev phase_in : Option Lane → Bool
phase_in None = false
phase_in (Some l) = l.phase

abbrev pub first_phase : List Lane → Bool
first_phase ls = phase_in (slice_get ls 0)

-- the slot that the first lane reads next
abbrev head_in : Option Lane → ℕ
head_in None = 0
head_in (Some l) = l.head

abbrev pub head_of : List Lane → ℕ
head_of ls = head_in (slice_get ls 0)

-- the sizes of the first guest's admin queues
abbrev sizes_in : Option Controller → ℕ
sizes_in None = 0
sizes_in (Some c) = c.aqa

abbrev pub first_sizes : List Controller → ℕ
first_sizes cs = sizes_in (slice_get cs 0)

-- whether commands of lane 1 end by an event
abbrev pub is_ending : Event → Bool
is_ending (event.Reap lane) = lane == 1
is_ending (event.DevTake lane) = lane == 1
is_ending (event.DevFail lane tag st) = lane == 1 && st.sc == 6
is_ending (event.GiveUp lane tag) = lane == 1
is_ending _ = false

pub ending-is : (e : Event) → IsEnding 1 e → is_ending e ≡ true
ending-is e (Reads is) = ap is_ending is
ending-is e (Takes is) = ap is_ending is
ending-is e (Fails tag is) = ap is_ending is
ending-is e (GivesUp tag is) = ap is_ending is

-- so many events lead so much further
further : (es : List Event) (a b : ℕ) → AreMadeBy ℕ one_more es a b → b ≡ a + length es
unfolding AreMadeBy
further [] a b made = (let same : b ≡ a = made in omega (arith, same))
further (e ∷ es) a b made =
    let one : made.0 ≡ a + 1 = made.1 in
    let rest = further es made.0 b made.2 in
    omega (arith, one, rest)

pub counts-by : (count a b : ℕ) → LeadsBy ℕ one_more count a b → b ≡ a + count
counts-by count a b leads =
    let all = further leads.events a b leads.made in
    let many = leads.counted in
    omega (arith, all, many)
