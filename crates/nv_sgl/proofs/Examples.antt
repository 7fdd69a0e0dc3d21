-- Worked examples of the definitions, computed by the checker.
use Rattle.std.proofs.Common.{◌≡◌, ℕ, true, false, List, [], ◌∷◌, ◌++◌, None, refl}
use Rattle.nv_entry.specs.Layout.{bits, dword, number_at, qword}
use Rattle.nv_entry.specs.StatusCode.{refused_with}
use Rattle.nv_entry.specs.declared.status_code.StatusCode.TheVariants.{DataTransferError, SglLengthInvalid, SglTypeInvalid}
use Rattle.nv_mem.specs.GuestMap.{everywhere}
use Rattle.nv_mem.specs.declared.piece.Piece.TheVariants.{Run, Bucket}
use Rattle.nv_model.specs.Dialogue.{Dialogue, End, Ask, and_then}
use Rattle.nv_model.specs.Reading.{Faulty, TooLong, Spells}
use Rattle.nv_model.specs.Sgl.{read_array}
use Rattle.nv_sgl.specs.Chain.{begins_array, grown, pieces_in, pieces_of}
use Rattle.nv_model.specs.Transcript.{fed, units_fed}
use Rattle.nv_sgl.specs.Parse.{Parse, dialogue_of, list_ahead}
use Rattle.nv_model.specs.Want.{want_of}
use Rattle.nv_model.specs.declared.want.Want.TheVariants as want

-- a descriptor of this kind, at 256 times `page`, of `len` bytes below 256
abbrev descriptor : ℕ → ℕ → ℕ → List ℕ
descriptor kind page len = 0 ∷ page ∷ 0 ∷ 0 ∷ 0 ∷ 0 ∷ 0 ∷ 0 ∷ len ∷ 0 ∷ 0 ∷ 0 ∷ 0 ∷ 0 ∷ 0 ∷ kind ∷ []

abbrev block : ℕ → List ℕ
block page = descriptor 0x00 page 64

abbrev bucket : List ℕ
bucket = descriptor 0x10 0 64

abbrev last : List ℕ
last = descriptor 0x30 0x60 32

-- ---- dialogues that are fed

-- it asks for two bytes twice
abbrev twice : Dialogue (List ℕ)
twice = Ask 10 2 4 (λ first. Ask 12 2 2 (λ second. End (first ++ second)))

fed_whole : fed twice (1 ∷ 2 ∷ 3 ∷ 4 ∷ []) ≡ End (1 ∷ 2 ∷ 3 ∷ 4 ∷ [])
unfolding fed
fed_whole = refl

fed_half : fed twice (1 ∷ 2 ∷ []) ≡ Ask 12 2 2 (λ second. End (1 ∷ 2 ∷ second))
unfolding fed
fed_half = refl

fed_nothing : fed twice [] ≡ twice
unfolding fed
fed_nothing = refl

fed_behind_its_end : fed (fed twice (1 ∷ 2 ∷ 3 ∷ 4 ∷ [])) (5 ∷ 6 ∷ []) ≡ End (1 ∷ 2 ∷ 3 ∷ 4 ∷ [])
unfolding fed
fed_behind_its_end = refl

taken_whole : units_fed twice (1 ∷ 2 ∷ 3 ∷ 4 ∷ 5 ∷ 6 ∷ []) ≡ (1 ∷ 2 ∷ []) ∷ (3 ∷ 4 ∷ []) ∷ []
unfolding units_fed
taken_whole = refl

-- ---- chains

begins_behind_a_segment : begins_array ((last ∷ []) ∷ []) ≡ true
unfolding bits dword number_at
begins_behind_a_segment = refl

goes_on_behind_a_block : begins_array ((block 0x30 ∷ []) ∷ (last ∷ []) ∷ []) ≡ false
unfolding bits dword number_at
goes_on_behind_a_block = refl

newest_first : grown ((last ∷ []) ∷ []) (block 0x30 ∷ []) ≡ (block 0x30 ∷ []) ∷ (last ∷ []) ∷ []
unfolding bits dword number_at
newest_first = refl

in_two_parts : grown ((block 0x30 ∷ []) ∷ (last ∷ []) ∷ []) (block 0x31 ∷ []) ≡ (block 0x30 ∷ block 0x31 ∷ []) ∷ (last ∷ []) ∷ []
unfolding bits dword number_at
in_two_parts = refl

oldest_pieces_first : pieces_in true ((block 0x31 ∷ bucket ∷ []) ∷ (block 0x30 ∷ []) ∷ []) ≡ Run 0x3000 64 ∷ Run 0x3100 64 ∷ Bucket 64 ∷ []
unfolding pieces_in pieces_of bits dword number_at qword
oldest_pieces_first = refl

no_bucket_of_a_source : pieces_in false ((bucket ∷ []) ∷ []) ≡ []
unfolding pieces_in pieces_of bits dword number_at qword
no_bucket_of_a_source = refl

-- ---- wants

one_part : want_of (Ask 0x6000 16 48 (λ d. End TooLong)) ≡ want.Read 0x6000 48
one_part = refl

part_of_many : want_of (Ask 0x6000 16 16368 (λ d. End TooLong)) ≡ want.Read 0x6000 4096
part_of_many = refl

refusal : want_of (End (Faulty SglTypeInvalid)) ≡ want.Fault (refused_with SglTypeInvalid)
refusal = refl

-- ---- parses

-- the first page of a guest's memory and the array of two at 6000h are mapped; the own descriptor was read
abbrev parse : ℕ → ℕ → Parse
parse budget need = record {
  regions = record { guest = 0x3000; host = 0x8000; len = 0x4000 } ∷ [];
  dest = true;
  need = need;
  budget = budget;
  ahead = record { from = 0x6000; left = 2; by_last = true };
  fault = None;
  chain = (last ∷ []) ∷ [];
}

wants_the_array : want_of (dialogue_of (parse 1023 128)) ≡ want.Read 0x6000 32
unfolding dialogue_of list_ahead and_then read_array
wants_the_array = refl

spells_both : fed (dialogue_of (parse 1023 128)) (block 0x30 ++ bucket) ≡ End (Spells (Run 0x3000 64 ∷ Bucket 64 ∷ []))
unfolding dialogue_of list_ahead and_then read_array fed everywhere pieces_in pieces_of bits dword number_at qword
spells_both = refl

another_length : fed (dialogue_of (parse 1023 127)) (block 0x30 ++ bucket) ≡ End (Faulty SglLengthInvalid)
unfolding dialogue_of list_ahead and_then read_array fed everywhere pieces_in pieces_of bits dword number_at qword
another_length = refl

first_of_two_faults : fed (dialogue_of (parse 1023 128)) (block 0x70 ++ descriptor 0x40 0 0) ≡ End (Faulty DataTransferError)
unfolding dialogue_of list_ahead and_then read_array fed everywhere pieces_in pieces_of bits dword number_at qword
first_of_two_faults = refl

one_too_many : fed (dialogue_of (parse 1 128)) (block 0x30 ++ descriptor 0x40 0 0) ≡ End TooLong
unfolding dialogue_of list_ahead and_then read_array fed everywhere pieces_in pieces_of bits dword number_at qword
one_too_many = refl

fault_at_the_limit : fed (dialogue_of (parse 2 128)) (block 0x30 ++ descriptor 0x40 0 0) ≡ End (Faulty SglTypeInvalid)
unfolding dialogue_of list_ahead and_then read_array fed everywhere pieces_in pieces_of bits dword number_at qword
fault_at_the_limit = refl

none_behind_the_fault : units_fed (dialogue_of (parse 1023 128)) (descriptor 0x40 0 0 ++ block 0x30) ≡ descriptor 0x40 0 0 ∷ []
unfolding dialogue_of list_ahead and_then read_array units_fed everywhere pieces_in pieces_of bits dword number_at qword
none_behind_the_fault = refl
