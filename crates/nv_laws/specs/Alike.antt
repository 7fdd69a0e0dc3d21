-- What is required of an event, and of the second of two worlds that are alike to a guest, of which the first is one that events lead to (profile).
use Rattle.std.specs.Prelude.{◌≡◌, ℕ, ◌<◌, true, slice_get, Some, None}
use Rattle.std.specs.Bool.{⊤}
use Rattle.nv_world_model.specs.declared.event.Event.{Event}
use Rattle.nv_world_model.specs.declared.event.Event.TheVariants as event
use Rattle.nv_world_model.specs.Seat.{held_in}
use Rattle.nv_world_model.specs.View.{is_tag_of}
use Rattle.nv_world_model.specs.World.{Free, Tag, World, leader_of, tag_of}

-- the device holds nothing under a tag that is free
abbrev pub HoldsNothingFree : World → Type 0
HoldsNothingFree w = (lane tag : ℕ) → tag_of w lane tag ≡ Some Free → held_in (slice_get w.device lane) tag ≡ None

-- what goes by a tag of that guest's is that guest's
abbrev pub GoesByItsOwn : (number : ℕ) → World → Type 0
GoesByItsOwn number w =
    (lane tag leader : ℕ) (t : Tag) → tag_of w lane tag ≡ Some t → leader_of t ≡ Some leader → is_tag_of number (tag_of w lane leader) ≡ true
    → is_tag_of number (Some t) ≡ true

-- where an event fails a command, it is with a status whose type and code a completion holds: Base Specification 2.0, "Status Field
-- Definition". Of any other status, what is read back from the completion could be success
abbrev pub HasFittingStatus : Event → Type 0
HasFittingStatus (event.Guest guest a) = ⊤
HasFittingStatus (event.Admin guest) = ⊤
HasFittingStatus (event.Take guest queue lane) = ⊤
HasFittingStatus (event.List lane tag addr len) = ⊤
HasFittingStatus (event.Submit lane tag) = ⊤
HasFittingStatus (event.GiveUp lane tag) = ⊤
HasFittingStatus (event.DevTake lane) = ⊤
HasFittingStatus (event.DevMove lane slot number) = ⊤
HasFittingStatus (event.DevPost lane slot) = ⊤
HasFittingStatus (event.DevFail lane slot st) = (st.sct < 8) × (st.sc < 256)
HasFittingStatus (event.Keep block) = ⊤
HasFittingStatus (event.Reap lane) = ⊤
HasFittingStatus (event.Post lane tag) = ⊤
