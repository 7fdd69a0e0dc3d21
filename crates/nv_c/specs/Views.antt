-- What a view of a guest's memory shows.
use Rattle.std.specs.Prelude.{◌≡◌, ◌⊎◌, ◌<◌, ◌≤◌, ℕ, List, Some, None, length, slice_get}
use Rattle.std.specs.Borrow.{Bor}
use Rattle.std.specs.Ptr.{Ptr, as_ptr}
use Rattle.nv_c.specs.Calls.{ignored, ok, unmapped}
use Rattle.nv_mediator.specs.Hosted.{Hosted, hosted_world}
use Rattle.nv_mem.specs.GuestMap.{host_of}
use Rattle.nv_mem.specs.MapRuns.{IsLongestRun}
use Rattle.nv_model.specs.Memory.{bytes_from, image}
use Rattle.nv_world_model.specs.Geometry.{Guest, regions_of}

-- these are the bytes of the guest's memory from an address on: of so many, all that lie in a row in the host from the first on
pub record IsView (h : Hosted) (guest address most : ℕ) (bytes : List ℕ) : Type 0 where
  pub given : Guest
  pub is : slice_get h.geometry.guests guest ≡ Some given
  pub row : 0 < most → (host : ℕ) × IsLongestRun (regions_of given) address most host (length bytes)
  pub within : length bytes ≤ most
  pub own : bytes ≡ bytes_from (image (regions_of given) (hosted_world h).host) address (length bytes)

-- nothing is shown: the guest has no such address, or there is no such guest
abbrev pub IsNoView : (h : Hosted) → (guest address status : ℕ) → Type 0
IsNoView h guest address status =
    (status ≡ unmapped) × ((given : Guest) × (slice_get h.geometry.guests guest ≡ Some given) × (host_of (regions_of given) address ≡ None))
    ⊎ (status ≡ ignored) × (slice_get h.geometry.guests guest ≡ None)

-- a slice is handed out: the pointer is that of the slice, and the count that of its bytes. Of a slice without bytes no pointer is
pub record IsHandedOut (bytes : Bor (List ℕ)) (before after : Ptr) (count : ℕ) : Type 0 where
  pub counted : count ≡ length bytes.now
  pub there : 0 < length bytes.now → after ≡ as_ptr bytes
  pub none : length bytes.now ≡ 0 → after ≡ before

-- a reference to a view is handed out, or nothing is shown; and nothing has changed. How long the bytes stay at that pointer no contract can say once
-- the mediator is back in its handle
abbrev pub IsShown : (guest address most : ℕ) → (before after : Ptr) → (count : ℕ) → (old : Hosted) → (status : ℕ) → (new : Hosted) → Type 0
IsShown guest address most before after count old status new =
    (new ≡ old)
    × ((status ≡ ok) × ((shown : Bor (List ℕ)) × IsView old guest address most shown.now × IsHandedOut shown before after count)
    ⊎ IsNoView old guest address status)
