-- A region more of a guest that is there, its limit on descriptors, and an extent more
use Rattle.std.proofs.Common.{◌≡◌, ℕ, ◌<◌, Some, Bool, true, false, ltb, Result, Ok, Err, refl, sym, ap, ◌∙◌, arith}
use Rattle.std.proofs.Common.{List, [], ◌∷◌, ◌++◌, length, get_or, set}
use Rattle.std.specs.Prelude.{map, MatchResult}
use Rattle.std.proofs.lemmas.List.{get_or-map, length-map, map-set}
use Rattle.std.proofs.lemmas.Bool.Decides.{nat_tests}
use Rattle.nv_once_script.specs.declared.once.fault.FaultKind.{FaultKind}
use Rattle.nv_once_script.specs.declared.once.fault.LineFault.{LineFault}
use Rattle.nv_once_script.specs.declared.once.fault.LineFault.TheVariants.{Faulty, NoMemory}
use Rattle.nv_once_script.specs.OnceFault.{◌>>=◌, Refuses}
use Rattle.nv_mem.specs.declared.region.Region.{Region}
use Rattle.nv_once_script.specs.OnceNumber.{number_of, number_up_to}
use Rattle.nv_once_script.specs.OnceScript.{first_time}
use Rattle.nv_replay_script.specs.declared.set_up.GuestSetUp.{GuestSetUp}
use Rattle.nv_replay_script.specs.ReplaySetUp.{GuestValue, SetUpSoFar, add_descriptors, add_extent, add_map, extended, guest_value}
use Rattle.nv_replay_script.specs.ReplaySetUp.{in_place, known_guest, no_guest, region_of, with_region}

abbrev ok : ℕ → Result ℕ FaultKind
ok n = Ok n

abbrev ok_set_up : SetUpSoFar → Result SetUpSoFar FaultKind
ok_set_up p = Ok p

known-there : (count number n : ℕ) (test : Bool) → ltb number count ≡ test
    → (in_place test >>= λ there. ok number) ≡ Ok n → n < count
known-there count number n true e h =
    let same : number ≡ n = cc in
    let below : number < count = grind (arith, nat_tests) in
    rw (← same) below
known-there count number n false e h = cc

known-below : (count n : ℕ) (number : Result ℕ FaultKind)
    → (number >>= λ k. in_place (ltb k count) >>= λ there. ok k) ≡ Ok n → n < count
known-below count n (Ok k) h = known-there count k n (ltb k count) refl h
known-below count n (Err kind) h = cc

-- a guest that is known is there
known_guest-below : (count n : ℕ) (word : List ℕ) → known_guest count word ≡ Ok n → n < count
known_guest-below count n word h = known-below count n (number_up_to 255 word) h

-- a region more
with_region-pushed : (guests : List GuestSetUp) (n : ℕ) (old new : GuestSetUp) (region : Region) → n < length guests
    → old ≡ get_or guests n old
    → guest_value new ≡ record (guest_value old) { regions = old.regions.items ++ region ∷ [] }
    → with_region (map guest_value guests) n region ≡ map guest_value (set guests n new)
with_region-pushed guests n old new region h at made =
    rw (
      get_or-map guest_value guests n old no_guest h,
      ← at,
      ← made,
    ) (sym (map-set guest_value guests n new))

-- what a line `map` adds
pub add_map-read : (p : SetUpSoFar) (number guest host len : List ℕ) (n : ℕ) (region : Region)
    (guests : List GuestSetUp) (old new : GuestSetUp) → p.guests ≡ map guest_value guests
    → known_guest (length guests) number ≡ Ok n → region_of guest host len ≡ Ok region
    → old ≡ get_or guests n old
    → guest_value new ≡ record (guest_value old) { regions = old.regions.items ++ region ∷ [] }
    → add_map p number guest host len ≡ Ok (record p { guests = map guest_value (set guests n new) })
add_map-read p number guest host len n region guests old new all known read at made =
    let count : length p.guests ≡ length guests = ap length all ∙ length-map guests guest_value in
    let known' : known_guest (length p.guests) number ≡ Ok n = ap (λ (c : ℕ). known_guest c number) count ∙ known in
    let added : with_region p.guests n region ≡ map guest_value (set guests n new) =
    ap (λ (gs : List GuestValue). with_region gs n region) all
    ∙ with_region-pushed guests n old new region (known_guest-below (length guests) n number known) at made in
    rw (known', read) (ap (λ (gs : List GuestValue). ok_set_up (record p { guests = gs })) added)

-- the guest that a line speaks of
value-there : (guests : List GuestSetUp) (n : ℕ) (old : GuestSetUp) → n < length guests → old ≡ get_or guests n old
    → get_or (map guest_value guests) n no_guest ≡ guest_value old
value-there guests n old h at = get_or-map guest_value guests n old no_guest h ∙ ap guest_value (sym at)

-- what a line `descriptors` adds
pub add_descriptors-read : (p : SetUpSoFar) (number limit : List ℕ) (n most : ℕ) (guests : List GuestSetUp) (old new : GuestSetUp)
    → p.guests ≡ map guest_value guests → known_guest (length guests) number ≡ Ok n → old ≡ get_or guests n old
    → first_time old.limit (number_of limit) ≡ Ok most
    → guest_value new ≡ record (guest_value old) { limit = Some most }
    → add_descriptors p number limit ≡ Ok (record p { guests = map guest_value (set guests n new) })
add_descriptors-read p number limit n most guests old new all known at read made =
    let count : length p.guests ≡ length guests = ap length all ∙ length-map guests guest_value in
    let known' : known_guest (length p.guests) number ≡ Ok n = ap (λ (c : ℕ). known_guest c number) count ∙ known in
    let there : get_or p.guests n no_guest ≡ guest_value old =
    ap (λ (gs : List GuestValue). get_or gs n no_guest) all
    ∙ value-there guests n old (known_guest-below (length guests) n number known) at in
    let added : set p.guests n (record (guest_value old) { limit = Some most }) ≡ map guest_value (set guests n new) =
    (λ i. set (all i) n (sym made i)) ∙ sym (map-set guest_value guests n new) in
    rw (known', there, read) (ap (λ (gs : List GuestValue). ok_set_up (record p { guests = gs })) added)

-- guests one of which was changed
changed-by : (x : Result GuestValue FaultKind) (p : SetUpSoFar) (n : ℕ) (new : GuestValue) (guests : List GuestValue) (r : Result (Unit {0}) LineFault)
    → set p.guests n new ≡ guests → MatchResult r (λ _. x ≡ Ok new) (Refuses x)
    → MatchResult r (λ _. (x >>= λ guest. ok_set_up (record p { guests = set p.guests n guest })) ≡ Ok (record p { guests = guests }))
    (Refuses (x >>= λ guest. ok_set_up (record p { guests = set p.guests n guest })))
changed-by x p n new guests (Ok u) is h = rw h (ap (λ (gs : List GuestValue). ok_set_up (record p { guests = gs })) is)
changed-by x p n new guests (Err (Faulty kind)) is h = rw h refl
changed-by x p n new guests (Err NoMemory) is h = h

-- what a line `extent` adds, or why it is refused
pub add_extent-by : (p : SetUpSoFar) (number base blocks : List ℕ) (n : ℕ) (guests : List GuestSetUp) (old new : GuestSetUp)
    (r : Result (Unit {0}) LineFault) → p.guests ≡ map guest_value guests → known_guest (length guests) number ≡ Ok n → old ≡ get_or guests n old
    → MatchResult r (λ _. extended (guest_value old) base blocks ≡ Ok (guest_value new)) (Refuses (extended (guest_value old) base blocks))
    → MatchResult r (λ _. add_extent p number base blocks ≡ Ok (record p { guests = map guest_value (set guests n new) }))
    (Refuses (add_extent p number base blocks))
add_extent-by p number base blocks n guests old new r all known at made =
    let count : length p.guests ≡ length guests = ap length all ∙ length-map guests guest_value in
    let known' : known_guest (length p.guests) number ≡ Ok n = ap (λ (c : ℕ). known_guest c number) count ∙ known in
    let there : get_or p.guests n no_guest ≡ guest_value old =
    ap (λ (gs : List GuestValue). get_or gs n no_guest) all
    ∙ value-there guests n old (known_guest-below (length guests) n number known) at in
    let added : set p.guests n (guest_value new) ≡ map guest_value (set guests n new) =
    ap (λ (gs : List GuestValue). set gs n (guest_value new)) all ∙ sym (map-set guest_value guests n new) in
    rw (known', there) (changed-by (extended (guest_value old) base blocks) p n (guest_value new) (map guest_value (set guests n new)) r added made)
