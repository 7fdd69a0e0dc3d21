-- Why a list of regions is refused as a map (profile)
use Rattle.std.specs.Prelude.{ℕ, ◌+◌, ◌%◌, ◌^◌, Bool, false, not, ◌&&◌, ◌||◌, ◌==◌, nat_le, nat_lt}
use Rattle.std.specs.Prelude.{if◌then◌else◌, Option, Some, None, List, [], ◌∷◌}
use Rattle.std.specs.List.{list_all, list_any}
use Rattle.nv_mem.specs.Page.{page_size}
use Rattle.nv_mem.specs.declared.region.Region.{Region}
use Rattle.nv_mem.specs.declared.map_error.MapError.{MapError}
use Rattle.nv_mem.specs.declared.map_error.MapError.TheVariants.{Unaligned, Overlap, OutsideHost}
use Rattle.nv_mem.specs.GuestMap.{spans_meet}

-- whether the region is made of whole pages, at least one
abbrev pub is_paged : Region → Bool
is_paged r = r.guest % page_size == 0 && r.host % page_size == 0 && r.len % page_size == 0 && nat_lt 0 r.len

-- whether the regions have a guest address or a host address in common
abbrev pub regions_meet : Region → Region → Bool
regions_meet r s = spans_meet r.guest r.len s.guest s.len || spans_meet r.host r.len s.host s.len

-- whether some region meets a later one
abbrev pub any_two_meet : List Region → Bool
any_two_meet [] = false
any_two_meet (r ∷ rs) = list_any (regions_meet r) rs || any_two_meet rs

-- whether the region lies in a host of that length and in the 64 bits of a guest's addresses
abbrev pub is_inside : ℕ → Region → Bool
is_inside host_len r = nat_le (r.host + r.len) host_len && nat_le (r.guest + r.len) (2 ^ 64)

-- the lowest number that applies of 1 Unaligned, 2 Overlap and 3 OutsideHost, or none
unfoldable pub refusal_of : ℕ → List Region → Option MapError
refusal_of host_len rs =
    if not (list_all is_paged rs) then Some Unaligned
    else if any_two_meet rs then Some Overlap
    else if not (list_all (is_inside host_len) rs) then Some OutsideHost
    else None
