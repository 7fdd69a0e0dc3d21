-- The set-up of a script: four sizes, the guests in order, and the extents and regions of each (profile)
use Rattle.std.specs.Prelude.{ℕ, ◌==◌, ◌&&◌, nat_le, nat_lt, Bool, if◌then◌else◌, Option, Some, None, Result, Ok, Err}
use Rattle.std.specs.Prelude.{List, [], ◌∷◌, ◌++◌, codes, map, length, slice_set, slice_index_or}
use Rattle.std.specs.Str.{bytes_eq}
use Rattle.nv_mem.specs.declared.region.Region.{Region}
use Rattle.nv_once_script.specs.declared.once.fault.FaultKind.{FaultKind}
use Rattle.nv_once_script.specs.declared.once.fault.FaultKind.TheVariants.{BadNumber, OutOfPlace, UnknownWord}
use Rattle.nv_once_script.specs.OnceFault.{◌>>=◌}
use Rattle.nv_once_script.specs.OnceNumber.{number_of, number_up_to}
use Rattle.nv_once_script.specs.OnceScript.{first_time}
use Rattle.nv_once_script.specs.OnceVocabulary.{count_check}
use Rattle.nv_replay_script.specs.declared.open_set_up.OpenSetUp.{OpenSetUp}
use Rattle.nv_replay_script.specs.declared.set_up.ExtentLine.{ExtentLine}
use Rattle.nv_replay_script.specs.declared.set_up.GuestSetUp.{GuestSetUp}
use Rattle.nv_replay_script.specs.declared.sizes.OpenSizes.{OpenSizes}
use Rattle.nv_replay_script.specs.declared.sizes.Sizes.{Sizes}
use Rattle.nv_replay_script.specs.declared.vocabulary.Size.{Size}
use Rattle.nv_replay_script.specs.declared.vocabulary.Size.TheVariants.{Host, Mediator, Disk, Lanes}
use Rattle.nv_replay_script.specs.declared.vocabulary.SetUpKind.{SetUpKind}
use Rattle.nv_replay_script.specs.declared.vocabulary.SetUpKind.TheVariants as kind
use Rattle.nv_replay_script.specs.ReplayVocabulary.{set_up_arguments}

-- ---- sizes

-- the size that the lines so far have named, if they did
abbrev pub named : OpenSizes → Size → Option ℕ
named sizes Host = sizes.host
named sizes Mediator = sizes.mediator
named sizes Disk = sizes.disk
named sizes Lanes = sizes.lanes

-- one more size is named
abbrev pub with_size : OpenSizes → Size → ℕ → OpenSizes
with_size sizes Host n = record sizes { host = Some n }
with_size sizes Mediator n = record sizes { mediator = Some n }
with_size sizes Disk n = record sizes { disk = Some n }
with_size sizes Lanes n = record sizes { lanes = Some n }

-- no size was named
abbrev pub no_sizes : OpenSizes
no_sizes = record { host = None; mediator = None; disk = None; lanes = None }

-- the sizes after a line that names one: naming one a second time is out of place
abbrev pub after_size : OpenSizes → Size → List ℕ → Result OpenSizes FaultKind
after_size sizes size word = do
  n ← first_time (named sizes size) (number_of word)
  Ok (with_size sizes size n)

abbrev pub all_four : (host mediator disk lanes : Option ℕ) → Option Sizes
all_four (Some host) (Some mediator) (Some disk) (Some lanes) =
    Some (record { host = host; mediator = mediator; disk = disk; lanes = lanes })
all_four host mediator disk lanes = None

-- the sizes, once all four are there
abbrev pub sizes_in : OpenSizes → Option Sizes
sizes_in sizes = all_four sizes.host sizes.mediator sizes.disk sizes.lanes

-- ---- guests

-- a guest: the extents of its namespace in order, the bytes of its planner's heap, the most descriptors of a list where a line named them,
-- and the regions of its memory in order
pub record GuestValue : Type 0 where
  pub extents : List ExtentLine
  pub heap : ℕ
  pub limit : Option ℕ
  pub regions : List Region

-- the value of a guest that was read
abbrev pub guest_value : GuestSetUp → GuestValue
guest_value guest =
    record { extents = guest.extents.items; heap = guest.heap; limit = guest.limit; regions = guest.regions.items }

-- the fewest and most bytes of a planner's heap
abbrev pub smallest_heap : ℕ
smallest_heap = 256

abbrev pub largest_heap : ℕ
largest_heap = 16777216

-- that a line may be where it is; else it is out of place
abbrev pub in_place : Bool → Result (Unit {0}) FaultKind
in_place may_stand = if may_stand then Ok tt else Err OutOfPlace

-- a word that is always at its position
abbrev pub fixed_word : (fixed word : List ℕ) → Result (Unit {0}) FaultKind
fixed_word fixed word = if bytes_eq word fixed then Ok tt else Err UnknownWord

-- the bytes of a heap that a word writes
abbrev pub heap_bytes : List ℕ → Result ℕ FaultKind
heap_bytes word = do
  n ← number_of word
  if nat_le smallest_heap n && nat_le n largest_heap then Ok n else Err BadNumber

-- the number of a guest that a word writes, where it is the next
abbrev pub next_guest : (count : ℕ) → List ℕ → Result (Unit {0}) FaultKind
next_guest count word = do
  number ← number_up_to 255 word
  in_place (number == count)

-- the number of a guest that a word writes, where it is there
abbrev pub known_guest : (count : ℕ) → List ℕ → Result ℕ FaultKind
known_guest count word = do
  number ← number_up_to 255 word
  there ← in_place (nat_lt number count)
  Ok number

-- the extent that these words make: any two numbers, which are judged with the set-up
abbrev pub extent_of : (base blocks : List ℕ) → Result ExtentLine FaultKind
extent_of base blocks = do
  b ← number_of base
  n ← number_of blocks
  Ok (record { base = b; blocks = n })

-- the guest that the words after `guest` make, where there are this many guests: the words give its first extent
abbrev pub guest_of : (count : ℕ) → List (List ℕ) → Result GuestValue FaultKind
guest_of count (number ∷ range ∷ base ∷ blocks ∷ heap ∷ bytes ∷ []) = do
  next ← next_guest count number
  first ← fixed_word (codes "range") range
  extent ← extent_of base blocks
  second ← fixed_word (codes "heap") heap
  h ← heap_bytes bytes
  Ok (record { extents = extent ∷ []; heap = h; limit = None; regions = [] })
guest_of count words = Err OutOfPlace

-- the region that these words make
abbrev pub region_of : (guest host len : List ℕ) → Result Region FaultKind
region_of guest host len = do
  g ← number_of guest
  h ← number_of host
  n ← number_of len
  Ok (record { guest = g; host = h; len = n })

-- ---- set-up lines

-- what the set-up lines so far have said
pub record SetUpSoFar : Type 0 where
  pub sizes : OpenSizes
  pub guests : List GuestValue

abbrev pub set_up_so_far : OpenSetUp → SetUpSoFar
set_up_so_far set_up = record { sizes = set_up.sizes; guests = map guest_value set_up.guests.items }

-- before the first line
abbrev pub no_set_up : SetUpSoFar
no_set_up = record { sizes = no_sizes; guests = [] }

-- a guest of which nothing was said
abbrev pub no_guest : GuestValue
no_guest = record { extents = []; heap = 0; limit = None; regions = [] }

-- a guest after a line that gives it an extent: the extent is added after the others
abbrev pub extended : GuestValue → (base blocks : List ℕ) → Result GuestValue FaultKind
extended guest base blocks = do
  extent ← extent_of base blocks
  Ok (record guest { extents = guest.extents ++ extent ∷ [] })

-- the regions of one guest are one more
abbrev pub with_region : List GuestValue → ℕ → Region → List GuestValue
with_region guests number region =
    let guest = slice_index_or guests number no_guest in
    slice_set guests number (record guest { regions = guest.regions ++ region ∷ [] })

-- a guest after a line that names its limit on descriptors: naming it a second time is out of place
abbrev pub limited : GuestValue → (limit : List ℕ) → Result GuestValue FaultKind
limited guest limit = do
  n ← first_time guest.limit (number_of limit)
  Ok (record guest { limit = Some n })

-- what a line that names a size adds
abbrev pub add_size : SetUpSoFar → Size → List ℕ → Result SetUpSoFar FaultKind
add_size so_far size word = do
  sizes ← after_size so_far.sizes size word
  Ok (record so_far { sizes = sizes })

-- what a line `guest` adds
abbrev pub add_guest : SetUpSoFar → List (List ℕ) → Result SetUpSoFar FaultKind
add_guest so_far words = do
  guest ← guest_of (length so_far.guests) words
  Ok (record so_far { guests = so_far.guests ++ guest ∷ [] })

-- what a line `extent` adds
abbrev pub add_extent : SetUpSoFar → (number base blocks : List ℕ) → Result SetUpSoFar FaultKind
add_extent so_far number base blocks = do
  n ← known_guest (length so_far.guests) number
  guest ← extended (slice_index_or so_far.guests n no_guest) base blocks
  Ok (record so_far { guests = slice_set so_far.guests n guest })

-- what a line `map` adds
abbrev pub add_map : SetUpSoFar → (number guest host len : List ℕ) → Result SetUpSoFar FaultKind
add_map so_far number guest host len = do
  n ← known_guest (length so_far.guests) number
  region ← region_of guest host len
  Ok (record so_far { guests = with_region so_far.guests n region })

-- what a line `descriptors` adds
abbrev pub add_descriptors : SetUpSoFar → (number limit : List ℕ) → Result SetUpSoFar FaultKind
add_descriptors so_far number limit = do
  n ← known_guest (length so_far.guests) number
  guest ← limited (slice_index_or so_far.guests n no_guest) limit
  Ok (record so_far { guests = slice_set so_far.guests n guest })

-- what a set-up line of this kind, with these words after its first, adds
abbrev pub add_set_up : SetUpSoFar → SetUpKind → List (List ℕ) → Result SetUpSoFar FaultKind
add_set_up so_far (kind.Size size) (word ∷ []) = add_size so_far size word
add_set_up so_far kind.Guest words = add_guest so_far words
add_set_up so_far kind.Extent (number ∷ base ∷ blocks ∷ []) = add_extent so_far number base blocks
add_set_up so_far kind.Map (number ∷ guest ∷ host ∷ len ∷ []) = add_map so_far number guest host len
add_set_up so_far kind.Descriptors (number ∷ limit ∷ []) = add_descriptors so_far number limit
add_set_up so_far kind words = Err OutOfPlace

-- the same, for words that are as many as that line needs, where the line comes before all lines that are not of the set-up
abbrev pub counted_set_up : SetUpSoFar → (is_early : Bool) → SetUpKind → List (List ℕ) → Result SetUpSoFar FaultKind
counted_set_up so_far is_early kind words = do
  counted ← count_check (length words) (set_up_arguments kind)
  early ← in_place is_early
  add_set_up so_far kind words
