-- A guest is given a share of a lane's tags, or is not (profile).
use Rattle.std.specs.Prelude.{◌≡◌, ℕ, ◌+◌, ◌-◌, ◌<◌, ◌≤◌, true, false, slice_get, slice_set, Some, None}
use Rattle.std.specs.List.{sum}
use Rattle.nv_core.specs.Held.{held_in}
use Rattle.nv_core.specs.Noted.{has_front}
use Rattle.nv_host.specs.Served.{Served, has_share, is_closed}
use Rattle.nv_host.specs.Shares.{most_needed, needed_in_all}
use Rattle.nv_host.specs.declared.shares.ShareRefusal.{ShareRefusal}
use Rattle.nv_host.specs.declared.shares.ShareRefusal.TheVariants as refusal
use Rattle.nv_world_model.specs.Area.{tag_count}
use Rattle.nv_world_model.specs.Geometry.{Guest}
use Rattle.nv_world_model.specs.Step.{is_io_queue}

-- the guest is there, and so many tags are what one command of it may need at least
pub record MayHave (guest tags : ℕ) (h : Served) (given : Guest) : Type 0 where
  pub there : slice_get h.setup.geometry.guests guest ≡ Some given
  pub least : most_needed given ≤ tags

-- the shares with another of that guest
abbrev pub with_share : (guest tags : ℕ) → Guest → Served → Served
with_share guest tags given h = record h { spare = slice_set h.spare guest (tags - most_needed given) }

-- the guest's share is so many tags, and nothing else has changed
abbrev pub IsShare : (guest tags : ℕ) → (old new : Served) → Type 0
IsShare guest tags old new = (given : Guest) × MayHave guest tags old given × (new ≡ with_share guest tags given old)

-- why it can't be: no such guest, a command of it may need more, or all shares would be more than a lane has
abbrev pub IsShareRefused : (guest tags : ℕ) → Served → ShareRefusal → Type 0
IsShareRefused guest tags h refusal.NoGuest = slice_get h.setup.geometry.guests guest ≡ None
IsShareRefused guest tags h refusal.TooSmall =
    (given : Guest) × (slice_get h.setup.geometry.guests guest ≡ Some given) × (tags < most_needed given)
IsShareRefused guest tags h refusal.TooLarge =
    (given : Guest) × MayHave guest tags h given
    × (tag_count < needed_in_all h.setup.geometry.guests + sum (with_share guest tags given h).spare)

-- a guest has no more tags of a lane than its share
abbrev pub IsWithin : (guest lane : ℕ) → Served → Type 0
IsWithin guest lane h =
    (given : Guest) (spare : ℕ) → slice_get h.setup.geometry.guests guest ≡ Some given → slice_get h.spare guest ≡ Some spare
    → held_in guest (slice_get h.side.lanes lane) ≤ most_needed given + spare

-- no guest has
abbrev pub AreWithin : (lane : ℕ) → Served → Type 0
AreWithin lane h = (guest : ℕ) → IsWithin guest lane h

-- a command of a guest's queue waits, and its share of a lane that is open has room for it
pub record HasRoom (guest queue lane : ℕ) (h : Served) : Type 0 where
  pub waits : has_front queue (slice_get h.side.controllers guest) ≡ true
  pub io : is_io_queue queue ≡ true
  pub there : lane < h.setup.lanes
  pub is_open : is_closed h lane ≡ false
  pub room : has_share h guest lane ≡ true
