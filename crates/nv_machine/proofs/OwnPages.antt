-- The pages of a lane's tags are no guest's, and what a plan moves fits them.
use Rattle.std.proofs.Common.{◌≡◌, ℕ, ◌+◌, ◌<◌, ◌≤◌, false, List, length, slice_get, Some, arith}
use Rattle.std.specs.Bool.{⊤}
use Rattle.nv_laws_sound.proofs.Clear.{clear-span}
use Rattle.nv_laws_sound.proofs.PlanSizes.{list-short, own-few, own_work, planned-kinds}
use Rattle.nv_laws_sound.specs.Consistent.{IsPlanned}
use Rattle.nv_laws_sound.specs.LaidOut.{IsLaidOut}
use Rattle.nv_mem.proofs.PlaceLists.{length-places_of}
use Rattle.nv_mem.specs.GuestMap.{span_met}
use Rattle.nv_mem.specs.Places.{places_of}
use Rattle.nv_model.specs.Limits.{most_bytes}
use Rattle.nv_world_model.specs.Area.{bounce_page, list_bytes, list_page, prps_of, tag_count}
use Rattle.nv_world_model.specs.Geometry.{Geometry, Guest, regions_of}
use Rattle.nv_world_model.specs.Plan.{Bounced, Plan}
use Rattle.nv_world_model.specs.Share.{Share}

-- the bytes of a tag's pages: its list page and 32 bounce pages
abbrev pub tag_bytes : ℕ
tag_bytes = 135168

module _ (host_bytes lanes : ℕ) (geometry : Geometry) (laid : IsLaidOut host_bytes lanes geometry) (number : ℕ) (guest : Guest)
    (given : slice_get geometry.guests number ≡ Some guest) (lane tag : ℕ) (in_lanes : lane < lanes) (in_tags : tag < tag_count) where
  abbrev list : ℕ
  list = list_page geometry.mediator lane tag

  abbrev bounce : ℕ
  bounce = bounce_page geometry.mediator lane tag

  -- a span of them meets none of the guest's regions
  pub pages-apart : (slot len : ℕ) → list ≤ slot → slot + len ≤ list + tag_bytes → span_met (regions_of guest) slot len ≡ false
  pages-apart slot len from to =
      clear-span (regions_of guest) slot len
      (λ at low high. laid.outside number guest at given (omega (arith, low, from)) (omega (arith, high, to, in_lanes, in_tags)))

  -- so of a list
  pub list-apart : (owner : Guest) (entry : List ℕ) (share : Share) → IsPlanned owner entry share
      → span_met (regions_of guest) list (length (list_bytes (prps_of share.plan owner list bounce))) ≡ false
  list-apart owner entry share is =
      let aligned = laid.pages in
      let few = list-short owner entry share list bounce (omega (arith, aligned)) is in
      pages-apart list (length (list_bytes (prps_of share.plan owner list bounce))) (omega arith) (omega (arith, few))

  -- and of the bounce pages
  pub bounce-apart : (len : ℕ) → len ≤ most_bytes → span_met (regions_of guest) bounce len ≡ false
  bounce-apart len few = pages-apart bounce len (omega arith) (omega (arith, few))

-- what a plan moves through the bounce pages
abbrev pub HasFew : Plan → Type 0
HasFew (Bounced work) = length (places_of work.pieces) ≤ most_bytes
HasFew _ = ⊤

pub plan-few : (guest : Guest) (entry : List ℕ) (share : Share) → IsPlanned guest entry share → HasFew share.plan
plan-few guest entry share is =
    planned-kinds HasFew guest entry share is tt (λ fits. tt)
    (let few = own-few guest entry share is in
    let same = length-places_of (own_work guest entry share is).pieces in omega (arith, few, same))
