-- Lemmas on bytes in a memory, and on the bytes that maps reach.
use Rattle.std.proofs.Common.{◌≡◌, ℕ, ◌+◌, ◌-◌, ◌<◌, ◌≤◌, ◌⊎◌, inl, inr, Bool, true}
use Rattle.std.proofs.Common.{false, List, [], ◌∷◌, ◌++◌, length, get_or, take, drop, Some, None, arith}
use Rattle.std.proofs.Common.{refl, sym, ap, ◌∙◌, subst, cond, min, ◌||◌, append_assoc}
use Rattle.std.proofs.lemmas.Bool.{cases_lt}
use Rattle.std.proofs.lemmas.List.{length-append, length-take, length-drop, get_or_past, get_or_append_left, get_or-append_right, get_or-take, get_or-drop, same_lists}
use Rattle.std.proofs.Math.Seq.{take-append_seam, drop-append_seam}
use Rattle.std.proofs.lemmas.Bool.Decides.{nat_tests}
use Rattle.std.specs.List.{All, AllPairs, find, list_any}
use Rattle.nv_mem.specs.declared.region.Region.{Region}
use Rattle.nv_mem.specs.Bytes.{InMemory, bytes_at, after_store}
use Rattle.nv_mem.specs.GuestMap.{Mapping, covers, covers_host, guest_of, host_of, IsApart, IsSound, spans_meet, span_met, hosts_meet}
use Rattle.nv_mem.specs.MapRuns.{InImage}
use Rattle.nv_mem.proofs.Images.{AllPairs-head, AllPairs-tail, All-find, find-passes, host_of-found, host_of-inside}

-- ---- a memory after a store

-- a store keeps the memory's length
pub length-after_store : (memory bytes : List ℕ) (addr : ℕ) → InMemory (length memory) addr (length bytes)
    → length (after_store memory addr bytes) ≡ length memory
length-after_store memory bytes addr inside =
    simp (length-append, length-take, length-drop)
    (elim (cases_lt 0 (length bytes)) [ inl some ↦ let end = inside some in omega arith | inr none ↦ omega arith ])

-- a byte that is not stored to is as it was
pub get_or-after_store_other : (memory bytes : List ℕ) (addr at d : ℕ) → InMemory (length memory) addr (length bytes)
    → (at < addr) ⊎ (addr + length bytes ≤ at) → get_or (after_store memory addr bytes) at d ≡ get_or memory at d
get_or-after_store_other memory bytes addr at d inside outside =
    let len = length-after_store memory bytes addr inside in
    elim (cases_lt at (length memory)) [
      | inr past ↦ get_or_past (after_store memory addr bytes) at d (omega (arith, len)) ∙ sym (get_or_past memory at d past)
      | inl within ↦ elim outside [
        | inl low ↦
            get_or_append_left (take addr memory ++ bytes) (drop (addr + length bytes) memory) d at (simp (length-append, length-take) (omega arith))
            ∙ get_or_append_left (take addr memory) bytes d at (simp length-take (omega arith))
            ∙ get_or-take addr memory at d low
        | inr high ↦
            let seam : length (take addr memory ++ bytes) ≡ addr + length bytes = simp (length-append, length-take) (omega arith) in
            let back : addr + length bytes + (at - (addr + length bytes)) ≡ at = omega arith in
            get_or-append_right (take addr memory ++ bytes) (drop (addr + length bytes) memory) (addr + length bytes) at d seam high
            ∙ get_or-drop (addr + length bytes) memory (at - (addr + length bytes)) d
            ∙ ap (λ k. get_or memory k d) back
      ]
    ]

-- a byte that is stored to is the one that was handed in for it
pub get_or-after_store : (memory bytes : List ℕ) (addr i : ℕ) → InMemory (length memory) addr (length bytes)
    → i < length bytes → get_or (after_store memory addr bytes) (addr + i) 0 ≡ get_or bytes i 0
get_or-after_store memory bytes addr i inside below =
    let end : addr + length bytes ≤ length memory = inside (omega arith) in
    let seam : length (take addr memory) ≡ addr = simp length-take (omega arith) in
    let back : addr + i - addr ≡ i = omega arith in
    get_or_append_left (take addr memory ++ bytes) (drop (addr + length bytes) memory) 0 (addr + i) (simp (length-append, length-take) (omega arith))
    ∙ get_or-append_right (take addr memory) bytes addr (addr + i) 0 seam (omega arith)
    ∙ ap (λ k. get_or bytes k 0) back

-- what is read from where it was stored is what was stored
pub bytes_at-after_store : (memory bytes : List ℕ) (addr : ℕ) → InMemory (length memory) addr (length bytes)
    → bytes_at (after_store memory addr bytes) addr (length bytes) ≡ bytes
bytes_at-after_store memory [] addr inside = refl
bytes_at-after_store memory (b ∷ bs) addr inside =
    let bytes : List ℕ = b ∷ bs in
    let end : addr + length bytes ≤ length memory = inside (omega arith) in
    let seam : length (take addr memory) ≡ addr = simp length-take (omega arith) in
    let rest : List ℕ = drop (addr + length bytes) memory in
    let P : ℕ → Type 0 = λ n. take (length bytes) (drop n (take addr memory ++ (bytes ++ rest))) ≡ bytes in
    let at_seam : P (length (take addr memory)) = ap (λ xs. take (length bytes) xs) (drop-append_seam (take addr memory) (bytes ++ rest)) ∙ take-append_seam bytes rest in
    ap (λ xs. take (length bytes) (drop addr xs)) (append_assoc (take addr memory) bytes rest) ∙ subst P seam at_seam

-- a range that is not stored to reads as before
pub bytes_at-after_store_other : (memory bytes : List ℕ) (addr from n : ℕ)
    → InMemory (length memory) addr (length bytes) → (from + n ≤ addr) ⊎ (addr + length bytes ≤ from)
    → bytes_at (after_store memory addr bytes) from n ≡ bytes_at memory from n
bytes_at-after_store_other memory bytes addr from n inside outside =
    let len = length-after_store memory bytes addr inside in
    let outside_at : (k : ℕ) → k < n → (from + k < addr) ⊎ (addr + length bytes ≤ from + k) = λ k below.
    elim outside [ inl low ↦ inl (omega arith) | inr high ↦ inr (omega arith) ] in
    same_lists (bytes_at (after_store memory addr bytes) from n) (bytes_at memory from n)
    (simp (length-take, length-drop) (ap (λ k. min n (k - from)) len))
    (λ k d below.
    let in_range : k < n = (let size = length-take n (drop from (after_store memory addr bytes)) in omega (arith, size)) in
    get_or-take n (drop from (after_store memory addr bytes)) k d in_range
    ∙ get_or-drop from (after_store memory addr bytes) k d
    ∙ get_or-after_store_other memory bytes addr (from + k) d inside (outside_at k in_range)
    ∙ sym (get_or-drop from memory k d)
    ∙ sym (get_or-take n (drop from memory) k d in_range))

-- a range of a memory has its length
pub length-bytes_at : (memory : List ℕ) (addr n : ℕ) → InMemory (length memory) addr n
    → length (bytes_at memory addr n) ≡ n
length-bytes_at memory addr n inside =
    simp (length-take, length-drop)
    (elim (cases_lt 0 n) [ inl some ↦ let end = inside some in omega arith | inr none ↦ omega arith ])

-- and the memory's bytes
pub get_or-bytes_at : (memory : List ℕ) (addr n i d : ℕ) → i < n
    → get_or (bytes_at memory addr n) i d ≡ get_or memory (addr + i) d
get_or-bytes_at memory addr n i d below = get_or-take n (drop addr memory) i d below ∙ get_or-drop addr memory i d

-- ---- images

-- a covered guest address lies in the region's host addresses
covers_host-covered : (r : Region) (addr host : ℕ) → covers r addr ≡ true → r.host + (addr - r.guest) ≡ host
    → covers_host r host ≡ true
covers_host-covered r addr host covered at = grind (arith, nat_tests)

-- an address of an image is in the host addresses of some region
pub InImage-region : (rs : List Region) (addr host : ℕ) → host_of rs addr ≡ Some host
    → (r : Region) × (find (λ s. covers s addr) rs ≡ Some r) × (covers_host r host ≡ true)
InImage-region rs addr host is =
    let found = host_of-found rs addr host is in
    let r : Region = found.0 in
    let covered : covers r addr ≡ true = find-passes (λ s. covers s addr) rs r found.1 in
    (r, found.1, covers_host-covered r addr host covered found.2)

-- a region that is apart from all of a map's has no address of its image
covers_host-apart : (r : Region) (rs : List Region) (addr host : ℕ) → All (IsApart r) rs → host_of rs addr ≡ Some host
    → covers_host r host ≡ false
covers_host-apart r rs addr host apart is =
    let found = InImage-region rs addr host is in
    let clear : IsApart r found.0 = All-find (IsApart r) (λ s. covers s addr) rs found.0 apart found.1 in
    (elim (covers_host r host) as (λ b. covers_host r host ≡ b → b ≡ false)
    [ true ↦ λ has. let none = clear.host host has in let some = found.2 in cc | false ↦ λ has. refl ]) refl

-- one region does not bring two of its addresses together
same_offset : (r : Region) (a b host : ℕ) → covers r a ≡ true → covers r b ≡ true → r.host + (a - r.guest) ≡ host
    → r.host + (b - r.guest) ≡ host → a ≡ b
same_offset r a b host has_a has_b at_a at_b = grind (arith, nat_tests)

-- nor does a list of regions, by its first one
injective-step : (r : Region) (rs : List Region) (a b host : ℕ) (p q : Bool) → All (IsApart r) rs
    → (host_of rs a ≡ Some host → host_of rs b ≡ Some host → a ≡ b) → covers r a ≡ p → covers r b ≡ q
    → cond p (Some (r.host + (a - r.guest))) (host_of rs a) ≡ Some host
    → cond q (Some (r.host + (b - r.guest))) (host_of rs b) ≡ Some host → a ≡ b
injective-step r rs a b host true true apart rest has_a has_b is_a is_b =
    let at_a : r.host + (a - r.guest) ≡ host = cc in
    let at_b : r.host + (b - r.guest) ≡ host = cc in
    same_offset r a b host has_a has_b at_a at_b
injective-step r rs a b host true false apart rest has_a has_b is_a is_b =
    let mine = covers_host-covered r a host has_a cc in
    let other = covers_host-apart r rs b host apart is_b in cc
injective-step r rs a b host false true apart rest has_a has_b is_a is_b =
    let mine = covers_host-covered r b host has_b cc in
    let other = covers_host-apart r rs a host apart is_a in cc
injective-step r rs a b host false false apart rest has_a has_b is_a is_b = rest is_a is_b

-- two guest addresses at one host address are one
pub host_of-injective : (rs : List Region) (a b host : ℕ) → AllPairs IsApart rs → host_of rs a ≡ Some host
    → host_of rs b ≡ Some host → a ≡ b
host_of-injective [] a b host apart is_a is_b = cc
host_of-injective (r ∷ rs) a b host apart is_a is_b =
    injective-step r rs a b host (covers r a) (covers r b) (AllPairs-head IsApart r rs apart)
    (host_of-injective rs a b host (AllPairs-tail IsApart r rs apart)) refl refl is_a is_b

-- what all fail, a found one fails
list_any-find : {X : Type 0} (p q : X → Bool) (xs : List X) (x : X) → list_any p xs ≡ false → find q xs ≡ Some x
    → p x ≡ false
list_any-find p q [] x none found = cc
list_any-find p q (y ∷ ys) x none found =
    (elim (p y) as (λ b. p y ≡ b → (b || list_any p ys) ≡ false → p x ≡ false) [
      | true ↦ λ is e. cc
      | false ↦ λ is e.
          (elim (q y) as (λ b. cond b (Some y) (find q ys) ≡ Some x → p x ≡ false)
          [ true ↦ λ f. let same : y ≡ x = cc in cc | false ↦ λ f. list_any-find p q ys x e f ]) found
    ]) refl none

-- a host address between the ends of a span that meets no region is not in the region
span_clear : (r : Region) (host len at : ℕ) → spans_meet r.host r.len host len ≡ false → covers_host r at ≡ true
    → host ≤ at → at < host + len → ⊥
span_clear r host len at clear has low high = grind (arith, nat_tests)

-- a span that meets no region has no address of the image
pub span_met-image : (rs : List Region) (host len at : ℕ) → span_met rs host len ≡ false → InImage rs at → host ≤ at
    → at < host + len → ⊥
span_met-image rs host len at clear image low high =
    let found = InImage-region rs image.0 at image.1 in
    let apart = list_any-find (λ r. spans_meet r.host r.len host len) (λ s. covers s image.0) rs found.0 clear found.1 in
    span_clear found.0 host len at apart found.2 low high

-- what is between the ends of a region
covers_host-ends : (r : Region) (at : ℕ) → covers_host r at ≡ true → (r.host ≤ at) × (at < r.host + r.len)
covers_host-ends r at has = (grind (arith, nat_tests), grind (arith, nat_tests))

-- maps that do not meet have no host address in common
pub hosts_meet-image : (rs ss : List Region) (at : ℕ) → hosts_meet rs ss ≡ false → InImage rs at → InImage ss at → ⊥
hosts_meet-image rs ss at clear one other =
    let found = InImage-region ss other.0 at other.1 in
    let s : Region = found.0 in
    let apart = list_any-find (λ q. span_met rs q.host q.len) (λ q. covers q other.0) ss s clear found.1 in
    let ends = covers_host-ends s at found.2 in
    span_met-image rs s.host s.len at apart one ends.0 ends.1

-- a store to addresses of an image alone stores inside the memory
pub InMemory-image : (m : Mapping) (addr n : ℕ) → IsSound m → ((i : ℕ) → i < n → InImage m.regions (addr + i))
    → InMemory m.host_len addr n
InMemory-image m addr n sound image some =
    let last = image (n - 1) (omega arith) in
    let below = host_of-inside m.host_len m.regions last.0 (addr + (n - 1)) sound.inside last.1 in
    omega (arith, below)

-- and leaves every other byte
pub get_or-after_store_image : (m : Mapping) (memory bytes : List ℕ) (addr at : ℕ) → IsSound m
    → length memory ≡ m.host_len → ((i : ℕ) → i < length bytes → InImage m.regions (addr + i))
    → ¬ (InImage m.regions at) → get_or (after_store memory addr bytes) at 0 ≡ get_or memory at 0
get_or-after_store_image m memory bytes addr at sound size image outside =
    let P : ℕ → Type 0 = λ n. InMemory n addr (length bytes) in
    let inside = subst P (sym size) (InMemory-image m addr (length bytes) sound image) in
    elim (cases_lt at addr) [
      | inl low ↦ get_or-after_store_other memory bytes addr at 0 inside (inl low)
      | inr from ↦ elim (cases_lt at (addr + length bytes)) [
        | inl within ↦
            let Q : ℕ → Type 0 = λ h. InImage m.regions h in
            let same : addr + (at - addr) ≡ at = omega arith in
            absurd (outside (subst Q same (image (at - addr) (omega arith))))
        | inr high ↦ get_or-after_store_other memory bytes addr at 0 inside (inr high)
      ]
    ]

-- ---- spans that meet no region

-- neither of two
neither : (p q : Bool) → (p || q) ≡ false → (p ≡ false) × (q ≡ false)
neither true q none = cc
neither false q none = (refl, none)

-- a part of a span that is apart from another is apart from it
spans_meet-part : (a m slot len at n : ℕ) → spans_meet a m slot len ≡ false → slot ≤ at → at + n ≤ slot + len → spans_meet a m at n ≡ false
spans_meet-part a m slot len at n clear low high = grind (arith, nat_tests)

-- a part of a span that meets no region meets none
pub span_met-part : (rs : List Region) (slot len at n : ℕ) → span_met rs slot len ≡ false → slot ≤ at → at + n ≤ slot + len → span_met rs at n ≡ false
span_met-part [] slot len at n clear low high = refl
span_met-part (r ∷ rs) slot len at n clear low high =
    let both = neither (spans_meet r.host r.len slot len) (span_met rs slot len) clear in
    let here = spans_meet-part r.host r.len slot len at n both.0 low high in
    let rest = span_met-part rs slot len at n both.1 low high in
    rw (here, rest) refl

-- an address of a span that is apart from a region is not in the region
covers_host-clear : (r : Region) (slot len at : ℕ) → spans_meet r.host r.len slot len ≡ false → slot ≤ at → at < slot + len → covers_host r at ≡ false
covers_host-clear r slot len at clear low high = grind (arith, nat_tests)

-- an address of a span that meets no region is nowhere in the guest's memory
pub guest_of-clear : (rs : List Region) (slot len at : ℕ) → span_met rs slot len ≡ false → slot ≤ at → at < slot + len → guest_of rs at ≡ None
guest_of-clear [] slot len at clear low high = refl
guest_of-clear (r ∷ rs) slot len at clear low high =
    let both = neither (spans_meet r.host r.len slot len) (span_met rs slot len) clear in
    let here = covers_host-clear r slot len at both.0 low high in
    rw here (guest_of-clear rs slot len at both.1 low high)
