-- Worked examples of the definitions, computed by the checker.
use Rattle.std.proofs.Common.{◌≡◌, ℕ, true, false, List, [], ◌∷◌, ◌++◌, replicate, Some, None, refl}
use Rattle.std.specs.List.{range_with_len}
use Rattle.nv_entry.specs.StatusCode.{refused_with}
use Rattle.nv_entry.specs.declared.status_code.StatusCode.TheVariants.{PrpOffsetInvalid}
use Rattle.nv_mem.specs.declared.piece.Piece.TheVariants.{Run, Bucket}
use Rattle.nv_mem.specs.declared.region.Region.{Region}
use Rattle.nv_model.specs.Prp.{read_entries}
use Rattle.nv_model.specs.Want.{want_of}
use Rattle.nv_model.specs.declared.want.Want.TheVariants as want
use Rattle.nv_prp.specs.Built.{built, entries_of, prps_of}
use Rattle.nv_prp.specs.Fits.{fit_behind, fit_prp, host_addresses, hosts_of, places_fit}
use Rattle.nv_prp.specs.Parse.{Parse, dialogue_of, slots_ahead}
use Rattle.nv_mem.specs.Places.{addresses}

-- ---- what a parse wants

-- a guest of two pages at host address 100000h
abbrev two_pages : List Region
two_pages = record { guest = 0; host = 0x100000; len = 0x2000 } ∷ []

-- three pages are left, with this many slots to the end of the list page
abbrev at_slots : ℕ → Parse
at_slots slots =
    record { regions = two_pages; fault = None; pages = 3; slots = slots; from = 0x1000; bytes = 12288; runs = [] }

needed_slots : want_of (dialogue_of (at_slots 512)) ≡ want.Read 0x1000 24
unfolding dialogue_of read_entries
needed_slots = refl

entry_and_pointer : want_of (dialogue_of (at_slots 2)) ≡ want.Read 0x1000 16
unfolding dialogue_of read_entries
entry_and_pointer = refl

pointer_alone : want_of (dialogue_of (at_slots 1)) ≡ want.Read 0x1000 8
unfolding dialogue_of read_entries
pointer_alone = refl

no_pages : want_of (dialogue_of (record (at_slots 1) { pages = 0 })) ≡ want.Done
unfolding dialogue_of read_entries
no_pages = refl

faulty : want_of (dialogue_of (record (at_slots 1) { fault = Some PrpOffsetInvalid })) ≡ want.Fault (refused_with PrpOffsetInvalid)
unfolding dialogue_of
faulty = refl

ahead_of_a_pointer : slots_ahead (at_slots 1) ≡ 7
ahead_of_a_pointer = refl

-- ---- which addresses fit

no_bytes : fit_prp [] ≡ false
unfolding fit_behind
no_bytes = refl

in_a_row : fit_prp (range_with_len 0x104 6) ≡ true
unfolding fit_behind
in_a_row = refl

at_a_multiple_of_two : fit_prp (range_with_len 0x102 6) ≡ false
unfolding fit_behind
at_a_multiple_of_two = refl

page_start_behind_a_page_end : fit_prp (range_with_len 0xffc 4 ++ range_with_len 0x5000 2) ≡ true
unfolding fit_behind
page_start_behind_a_page_end = refl

page_start_within_a_page : fit_prp (range_with_len 0xff8 4 ++ range_with_len 0x5000 2) ≡ false
unfolding fit_behind
page_start_within_a_page = refl

offset_behind_a_page_end : fit_prp (range_with_len 0xffc 4 ++ range_with_len 0x5004 2) ≡ false
unfolding fit_behind
offset_behind_a_page_end = refl

same_page_twice : fit_prp (range_with_len 0xffc 4 ++ range_with_len 0 2) ≡ true
unfolding fit_behind
same_page_twice = refl

bucket_among_them : places_fit two_pages (Run 0 4 ∷ Bucket 4 ∷ []) ≡ false
bucket_among_them = refl

hosts_of_two_runs : host_addresses two_pages (Run 0x1000 2 ∷ Run 8 1 ∷ []) ≡ 0x101000 ∷ 0x101001 ∷ 0x100008 ∷ []
unfolding hosts_of addresses
hosts_of_two_runs = refl

-- ---- what is built

within_a_page : built 0x9000 (range_with_len 0x104 6) ≡ prps_of 0x9000 0x104 []
unfolding built
within_a_page = refl

to_the_next_page : entries_of (range_with_len 0xffc 6) ≡ 0x1000 ∷ []
to_the_next_page = refl

first_page_is_no_entry : entries_of (range_with_len 0x5000 6) ≡ []
first_page_is_no_entry = refl

one_page_uses_no_prp2 : prps_of 0x9000 0x104 [] ≡ record { prp1 = 0x104; prp2 = 0; list = replicate 32 0; used = 0 }
one_page_uses_no_prp2 = refl

two_pages_use_no_list : prps_of 0x9000 0x104 (0x5000 ∷ []) ≡ record { prp1 = 0x104; prp2 = 0x5000; list = replicate 32 0; used = 0 }
two_pages_use_no_list = refl

three_pages_use_a_list : prps_of 0x9000 0x104 (0x5000 ∷ 0x3000 ∷ []) ≡ record { prp1 = 0x104; prp2 = 0x9000; list = 0x5000 ∷ 0x3000 ∷ replicate 30 0; used = 2 }
three_pages_use_a_list = refl
