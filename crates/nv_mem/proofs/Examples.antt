-- Worked examples of the definitions, computed by the checker.
use Rattle.std.proofs.Common.{◌≡◌, ℕ, ◌-◌, ◌^◌, true, false, List, [], ◌∷◌, Some, None, refl}
use Rattle.nv_mem.specs.declared.region.Region.{Region}
use Rattle.nv_mem.specs.declared.map_error.MapError.TheVariants.{Unaligned, Overlap, OutsideHost}
use Rattle.nv_mem.specs.declared.piece.Piece.TheVariants as piece
use Rattle.nv_mem.specs.Bytes.{bytes_at, after_store}
use Rattle.nv_mem.specs.GuestMap.{host_of, all_mapped, everywhere}
use Rattle.nv_mem.specs.MapRefusal.{refusal_of}
use Rattle.nv_mem.specs.Places.{At, Bucket, addresses, places_of, total_len}

-- a region
abbrev at : ℕ → ℕ → ℕ → Region
at guest host len = record { guest = guest; host = host; len = len }

-- the first two touch in guest and host, the third touches the second in the guest alone, the last ends at 2 to the 64
abbrev four : List Region
four = at 0x1000 0x8000 0x2000 ∷ at 0x3000 0xa000 0x1000 ∷ at 0x4000 0x2000 0x1000 ∷ at (2 ^ 64 - 0x1000) 0 0x1000 ∷ []

-- ---- what a map means

below_all : host_of four 0xfff ≡ None
below_all = refl

first_byte : host_of four 0x1000 ≡ Some 0x8000
first_byte = refl

last_byte_of_a_region : host_of four 0x2fff ≡ Some 0x9fff
last_byte_of_a_region = refl

next_region_in_a_row : host_of four 0x3000 ≡ Some 0xa000
next_region_in_a_row = refl

next_region_elsewhere : host_of four 0x4000 ≡ Some 0x2000
next_region_elsewhere = refl

in_a_gap : host_of four 0x5000 ≡ None
in_a_gap = refl

last_address : host_of four (2 ^ 64 - 1) ≡ Some 0xfff
last_address = refl

past_all_addresses : host_of four (2 ^ 64) ≡ None
past_all_addresses = refl

across_regions : all_mapped four 0x2ffe 4 ≡ true
unfolding everywhere
across_regions = refl

into_a_gap : all_mapped four 0x4ffe 3 ≡ false
unfolding everywhere
into_a_gap = refl

no_addresses : all_mapped four 0x5000 0 ≡ true
unfolding everywhere
no_addresses = refl

-- ---- what is refused

accepted : refusal_of 0xb000 four ≡ None
unfolding refusal_of
accepted = refl

one_byte_short : refusal_of 0xafff four ≡ Some OutsideHost
unfolding refusal_of
one_byte_short = refl

meet_in_guest : refusal_of 0x9000 (at 0 0 0x2000 ∷ at 0x1000 0x8000 0x1000 ∷ []) ≡ Some Overlap
unfolding refusal_of
meet_in_guest = refl

meet_in_host : refusal_of 0x9000 (at 0 0 0x1000 ∷ at 0x4000 0x4000 0x1000 ∷ at 0x8000 0 0x1000 ∷ []) ≡ Some Overlap
unfolding refusal_of
meet_in_host = refl

-- the addresses past 2 to the 64 are none that wrapped
past_the_end : refusal_of 0x9000 (at 0 0 0x1000 ∷ at (2 ^ 64 - 0x1000) 0x1000 0x2000 ∷ []) ≡ Some OutsideHost
unfolding refusal_of
past_the_end = refl

no_bytes : refusal_of 0x9000 (at 0 0 0 ∷ []) ≡ Some Unaligned
unfolding refusal_of
no_bytes = refl

-- all three apply
lowest_number : refusal_of 0 (at 0 0 0x1000 ∷ at 0 0 0x1000 ∷ at 1 0 0x1000 ∷ []) ≡ Some Unaligned
unfolding refusal_of
lowest_number = refl

-- ---- places and bytes

places_in_order : places_of (piece.Run 10 2 ∷ piece.Bucket 1 ∷ piece.Run 11 1 ∷ []) ≡ At 10 ∷ At 11 ∷ Bucket ∷ At 11 ∷ []
unfolding addresses
places_in_order = refl

bytes_in_all : total_len (piece.Run 10 2 ∷ piece.Bucket 1 ∷ piece.Run 11 1 ∷ []) ≡ 4
bytes_in_all = refl

stored : after_store (1 ∷ 2 ∷ 3 ∷ 4 ∷ []) 1 (8 ∷ 9 ∷ []) ≡ 1 ∷ 8 ∷ 9 ∷ 4 ∷ []
stored = refl

nothing_stored : after_store (1 ∷ 2 ∷ []) 7 [] ≡ 1 ∷ 2 ∷ []
nothing_stored = refl

loaded : bytes_at (1 ∷ 2 ∷ 3 ∷ 4 ∷ []) 1 2 ≡ 2 ∷ 3 ∷ []
loaded = refl
