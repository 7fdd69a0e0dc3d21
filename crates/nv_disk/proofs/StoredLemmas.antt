-- Blocks by their entries, as a list of blocks.
use Rattle.std.proofs.Common.{◌≡◌, ◌≢◌, ℕ, zero, suc, ◌+◌, ◌-◌, ◌*◌, ◌/◌, ◌%◌, ◌<◌}
use Rattle.std.proofs.Common.{◌≤◌, ◌^◌, ◌⊎◌, Bool, true, false, cond, List, [], ◌∷◌, ◌++◌, length, map}
use Rattle.std.proofs.Common.{replicate, set, take, drop, All, refl, sym, ap, subst, ◌∙◌, inl, inr, arith}
use Rattle.std.specs.List.{count_by, slice_index_or}
use Rattle.std.proofs.lemmas.Bool.Decides.{nat_tests}
use Rattle.std.proofs.lemmas.List.{get_or_append_left, get_or-map, get_or-replicate, get_or-set_other, get_or-set_same, length-append, length-map, length-replicate, length-set, map-set, set-get_or}
use Rattle.std.proofs.lemmas.List.Elements.{All-append, All-set}
use Rattle.std.proofs.lemmas.List.Sums.{count_by-le-length, sum_by-cons, sum_by-set}
use Rattle.std.proofs.Math.Seq.{drop-cons, map-set_same}
use Rattle.nv_disk.specs.Stored.{AreApart, IsStored, blocks_of, is_blank, is_stored, place_of, places_of, shown}

-- ---- entries

-- a block without a place holds zeros
pub blank-none : (entry : ℕ) → entry / 2 ≡ 0 → is_blank entry ≡ true
blank-none entry none = (let few : entry < 2 = omega arith in grind (arith, nat_tests))

-- so does one that was cleared
pub blank-cleared : (place : ℕ) → is_blank (2 * place + 1) ≡ true
blank-cleared place = (let odd : (2 * place + 1) % 2 ≡ 1 = omega arith in grind (arith, nat_tests))

-- one that was written holds what is stored
pub stored-written : (at : ℕ) → is_blank (2 * (at + 1)) ≡ false
stored-written at = (let even : 2 * (at + 1) % 2 ≡ 0 = omega arith in grind (arith, nat_tests))

-- and has a place
pub place-stored : (entry : ℕ) → is_blank entry ≡ false → 2 ≤ entry × (entry % 2 ≡ 0)
place-stored entry told = (two entry told, even entry told)
  where
    two : (e : ℕ) → is_blank e ≡ false → 2 ≤ e
    two e told = grind (arith, nat_tests)

    even : (e : ℕ) → is_blank e ≡ false → e % 2 ≡ 0
    even e told = (let low : e % 2 < 2 = omega arith in grind (arith, nat_tests))

-- those behind it in a row are stored, too
pub stored-behind : (entry i : ℕ) → is_blank entry ≡ false → is_blank (entry + 2 * i) ≡ false
stored-behind entry i told =
    (let two : 2 ≤ entry = (place-stored entry told).0 in
    let even : entry % 2 ≡ 0 = (place-stored entry told).1 in
    let same : (entry + 2 * i) % 2 ≡ 0 = omega arith in
    grind (arith, nat_tests))

-- ---- what blocks hold

-- as many blocks as entries, and as many places
pub length-blocks : (stored : List (List ℕ)) (entries : List ℕ) → length (blocks_of stored entries) ≡ length entries
unfolding blocks_of
length-blocks stored entries = length-map entries (shown stored)

pub length-places : (entries : List ℕ) → length (places_of entries) ≡ length entries
unfolding places_of
length-places entries = length-map entries place_of

-- a block
pub block-shown : (stored : List (List ℕ)) (entries : List ℕ) (block : ℕ) (other : List ℕ) → block < length entries
    → slice_index_or (blocks_of stored entries) block other ≡ shown stored (slice_index_or entries block 0)
unfolding blocks_of
block-shown stored entries block other below = get_or-map (shown stored) entries block 0 other below

-- its place
pub place-told : (entries : List ℕ) (block : ℕ) → block < length entries → slice_index_or (places_of entries) block 0 ≡ slice_index_or entries block 0 / 2
unfolding places_of
place-told entries block below = get_or-map place_of entries block 0 0 below

-- zeros, or what is stored
pub shown-none : (stored : List (List ℕ)) (entry : ℕ) → is_blank entry ≡ true → shown stored entry ≡ replicate 512 0
unfolding shown
shown-none stored entry blank = ap (λ (b : Bool). cond b (replicate 512 0) (slice_index_or stored (place_of entry - 1) [])) blank

pub shown-some : (stored : List (List ℕ)) (entry : ℕ) → is_blank entry ≡ false → shown stored entry ≡ slice_index_or stored (entry / 2 - 1) []
unfolding shown
shown-some stored entry told = ap (λ (b : Bool). cond b (replicate 512 0) (slice_index_or stored (place_of entry - 1) [])) told

-- each block has 512 bytes
pub shown-sized : (stored : List (List ℕ)) (entry : ℕ) → All (λ block. length block ≡ 512) stored → entry / 2 ≤ length stored → length (shown stored entry) ≡ 512
shown-sized stored entry sized there = by (is_blank entry) refl
  where
    by : (b : Bool) → is_blank entry ≡ b → length (shown stored entry) ≡ 512
    by true told = ap (λ (xs : List ℕ). length xs) (shown-none stored entry told) ∙ length-replicate {A = ℕ} 512 0
    by false told =
        (let two : 2 ≤ entry = (place-stored entry told).0 in
        ap (λ (xs : List ℕ). length xs) (shown-some stored entry told) ∙ sized (entry / 2 - 1) [] (omega arith))

pub blocks-sized : (capacity : ℕ) (entries : List ℕ) (stored : List (List ℕ)) → IsStored capacity (places_of entries) stored
    → All (λ block. length block ≡ 512) (blocks_of stored entries)
blocks-sized capacity entries stored is = λ i d below.
    let inside : i < length entries = (let same = length-blocks stored entries in omega arith) in
    let places = length-places entries in
    let there : slice_index_or entries i 0 / 2 ≤ length stored =
    (let L : ℕ → Type 0 = λ n. n ≤ length stored in subst L (place-told entries i inside) (is.there i 0 (omega arith))) in
    ap (λ (xs : List ℕ). length xs) (block-shown stored entries i d inside)
    ∙ shown-sized stored (slice_index_or entries i 0) is.sized there

-- ---- other bytes for a block that is stored

-- a block of another place holds what it did
shown-other : (stored : List (List ℕ)) (at entry : ℕ) (bytes : List ℕ) → entry / 2 ≢ suc at → shown (set stored at bytes) entry ≡ shown stored entry
shown-other stored at entry bytes other = by (is_blank entry) refl
  where
    by : (b : Bool) → is_blank entry ≡ b → shown (set stored at bytes) entry ≡ shown stored entry
    by true told = shown-none (set stored at bytes) entry told ∙ sym (shown-none stored entry told)
    by false told =
        (let two : 2 ≤ entry = (place-stored entry told).0 in
        shown-some (set stored at bytes) entry told
        ∙ get_or-set_other stored at (entry / 2 - 1) bytes [] (λ same. other (omega arith))
        ∙ sym (shown-some stored entry told))

-- all of some places are others
blocks-others : (stored : List (List ℕ)) (at : ℕ) (entries : List ℕ) (bytes : List ℕ) → All (λ place. place ≢ suc at) (map place_of entries)
    → map (shown (set stored at bytes)) entries ≡ map (shown stored) entries
blocks-others stored at [] bytes others = refl
blocks-others stored at (entry ∷ entries) bytes others =
    let first : entry / 2 ≢ suc at = others 0 0 (omega arith) in
    let rest : All (λ p. p ≢ suc at) (map place_of entries) = λ i d below. others (suc i) d (omega arith) in
    ap (λ (b : List ℕ). b ∷ map (shown (set stored at bytes)) entries) (shown-other stored at entry bytes first)
    ∙ ap (λ (bs : List (List ℕ)). shown stored entry ∷ bs) (blocks-others stored at entries bytes rest)

-- what was written is held
shown-written : (stored : List (List ℕ)) (at : ℕ) (bytes : List ℕ) → at < length stored → shown (set stored at bytes) (2 * (at + 1)) ≡ bytes
shown-written stored at bytes there =
    let here : 2 * (at + 1) / 2 - 1 ≡ at = omega arith in
    shown-some (set stored at bytes) (2 * (at + 1)) (stored-written at)
    ∙ ap (λ (k : ℕ). slice_index_or (set stored at bytes) k []) here
    ∙ get_or-set_same stored at bytes [] there

-- the block of that place has other bytes, and no other block
block-set : (stored : List (List ℕ)) (entries : List ℕ) (block at : ℕ) (bytes : List ℕ)
    → AreApart (map place_of entries) → block < length entries → slice_index_or entries block 0 / 2 ≡ suc at → at < length stored
    → map (shown (set stored at bytes)) (set entries block (2 * (at + 1))) ≡ set (map (shown stored) entries) block bytes
unfolding AreApart
block-set stored [] block at bytes apart below is there = absurd (omega arith)
block-set stored (entry ∷ entries) zero at bytes apart below is there =
    ap (λ (b : List ℕ). b ∷ map (shown (set stored at bytes)) entries) (shown-written stored at bytes there)
    ∙ ap (λ (bs : List (List ℕ)). bytes ∷ bs) (blocks-others stored at entries bytes (only apart.0))
  where
    only : (place_of entry ≡ 0) ⊎ All (λ other. other ≢ place_of entry) (map place_of entries) → All (λ p. p ≢ suc at) (map place_of entries)
    only (inl none) = absurd (omega arith)
    only (inr others) = λ i d inside same. others i d inside (same ∙ sym is)
block-set stored (entry ∷ entries) (suc block) at bytes apart below is there =
    ap (λ (b : List ℕ). b ∷ map (shown (set stored at bytes)) (set entries block (2 * (at + 1)))) (shown-other stored at entry bytes (other apart.0))
    ∙ ap (λ (bs : List (List ℕ)). shown stored entry ∷ bs) (block-set stored entries block at bytes apart.1 (omega arith) is there)
  where
    other : (place_of entry ≡ 0) ⊎ All (λ p. p ≢ place_of entry) (map place_of entries) → entry / 2 ≢ suc at
    other (inl none) = λ same. absurd (omega arith)
    other (inr others) = λ same.
        (let size : length (map place_of entries) ≡ length entries = length-map entries place_of in
        let inside : block < length (map place_of entries) = omega arith in
        others block 0 inside (get_or-map place_of entries block 0 0 (omega arith) ∙ is ∙ sym same))

-- ---- blocks that are cleared, and places that stay

pub blocks-cleared : (stored : List (List ℕ)) (entries : List ℕ) (block place : ℕ)
    → blocks_of stored (set entries block (2 * place + 1)) ≡ set (blocks_of stored entries) block (replicate 512 0)
unfolding blocks_of
blocks-cleared stored entries block place =
    map-set (shown stored) entries block (2 * place + 1)
    ∙ ap (λ (b : List ℕ). set (map (shown stored) entries) block b) (shown-none stored (2 * place + 1) (blank-cleared place))

pub places-same : (entries : List ℕ) (block entry : ℕ) → entry / 2 ≡ slice_index_or entries block 0 / 2 → places_of (set entries block entry) ≡ places_of entries
unfolding places_of
places-same entries block entry same = map-set_same place_of entries block entry 0 same

-- ---- a block that is written first

-- entries that were there show what they did
shown-more : (stored : List (List ℕ)) (bytes : List ℕ) (entry : ℕ) → entry / 2 ≤ length stored → shown (stored ++ bytes ∷ []) entry ≡ shown stored entry
shown-more stored bytes entry there = by (is_blank entry) refl
  where
    by : (b : Bool) → is_blank entry ≡ b → shown (stored ++ bytes ∷ []) entry ≡ shown stored entry
    by true told = shown-none (stored ++ bytes ∷ []) entry told ∙ sym (shown-none stored entry told)
    by false told =
        (let two : 2 ≤ entry = (place-stored entry told).0 in
        shown-some (stored ++ bytes ∷ []) entry told
        ∙ get_or_append_left stored (bytes ∷ []) [] (entry / 2 - 1) (omega arith)
        ∙ sym (shown-some stored entry told))

blocks-more : (stored : List (List ℕ)) (bytes : List ℕ) (entries : List ℕ) → All (λ place. place ≤ length stored) (map place_of entries)
    → map (shown (stored ++ bytes ∷ [])) entries ≡ map (shown stored) entries
blocks-more stored bytes [] there = refl
blocks-more stored bytes (entry ∷ entries) there =
    let rest : All (λ p. p ≤ length stored) (map place_of entries) = λ i d below. there (suc i) d (omega arith) in
    ap (λ (b : List ℕ). b ∷ map (shown (stored ++ bytes ∷ [])) entries) (shown-more stored bytes entry (there 0 0 (omega arith)))
    ∙ ap (λ (bs : List (List ℕ)). shown stored entry ∷ bs) (blocks-more stored bytes entries rest)

-- a block without a place gets the next one, and zeros there: it holds what it did
pub blocks-settled : (stored : List (List ℕ)) (entries : List ℕ) (block : ℕ) → All (λ place. place ≤ length stored) (places_of entries)
    → block < length entries → slice_index_or entries block 0 / 2 ≡ 0
    → blocks_of (stored ++ replicate 512 0 ∷ []) (set entries block (2 * (length stored + 1) + 1)) ≡ blocks_of stored entries
unfolding blocks_of places_of
blocks-settled stored entries block there below none =
    let zeros : slice_index_or (map (shown stored) entries) block [] ≡ replicate 512 0 =
    get_or-map (shown stored) entries block 0 [] below ∙ shown-none stored (slice_index_or entries block 0) (blank-none (slice_index_or entries block 0) none) in
    blocks-cleared (stored ++ replicate 512 0 ∷ []) entries block (length stored + 1)
    ∙ ap (λ (bs : List (List ℕ)). set bs block (replicate 512 0)) (blocks-more stored (replicate 512 0) entries there)
    ∙ ap (λ (b : List ℕ). set (map (shown stored) entries) block b) (sym zeros)
    ∙ set-get_or (map (shown stored) entries) block []

pub places-settled : (entries : List ℕ) (block n : ℕ) → places_of (set entries block (2 * (n + 1) + 1)) ≡ set (places_of entries) block (n + 1)
unfolding places_of
places-settled entries block n =
    let half : (2 * (n + 1) + 1) / 2 ≡ n + 1 = omega arith in
    map-set place_of entries block (2 * (n + 1) + 1) ∙ ap (λ (p : ℕ). set (map place_of entries) block p) half

-- ---- what is kept of the places

-- a new place is no other's
apart-new : (places : List ℕ) (n place : ℕ) → All (λ p. p ≤ n) places → place ≡ n + 1 → All (λ p. p ≢ place) places
apart-new places n place there is = λ i d below same. (let low = there i d below in absurd (omega arith))

pub apart-set : (places : List ℕ) (block n : ℕ) → AreApart places → All (λ p. p ≤ n) places → AreApart (set places block (n + 1))
unfolding AreApart
apart-set [] block n apart there = apart
apart-set (place ∷ places) zero n apart there =
    let rest : All (λ p. p ≤ n) places = λ i d below. there (suc i) d (omega arith) in
    (inr (apart-new places n (n + 1) rest refl), apart.1)
apart-set (place ∷ places) (suc block) n apart there =
    let rest : All (λ p. p ≤ n) places = λ i d below. there (suc i) d (omega arith) in
    let low : place ≤ n = there 0 0 (omega arith) in
    (still low apart.0, apart-set places block n apart.1 rest)
  where
    still : place ≤ n → (place ≡ 0) ⊎ All (λ other. other ≢ place) places → (place ≡ 0) ⊎ All (λ other. other ≢ place) (set places block (n + 1))
    still low (inl none) = inl none
    still low (inr others) = inr (All-set (λ other. other ≢ place) places block (n + 1) (λ same. absurd (omega arith)) others)

-- what a place counts
abbrev one : ℕ → ℕ
one p = cond (is_stored p) 1 0

-- one more block has a place
pub counted-set : (places : List ℕ) (block n : ℕ) → block < length places → slice_index_or places block 0 ≡ 0
    → count_by is_stored (set places block (n + 1)) ≡ count_by is_stored places + 1
counted-set places block n below none =
    let next : n + 1 ≡ suc n = omega arith in
    summed _ _ _ _ (ap one none) (first (n + 1) n next) (sum_by-set one places block (n + 1) 0 below)
  where
    first : (k m : ℕ) → k ≡ suc m → one k ≡ 1
    first k m is = grind (arith, nat_tests)

    summed : (a b o w : ℕ) → o ≡ 0 → w ≡ 1 → a + o ≡ b + w → a ≡ b + 1
    summed a b o w none' one' sum = omega arith

-- where a block has no place, fewer have one than there are
pub counted-fewer : (places : List ℕ) (block : ℕ) → block < length places → slice_index_or places block 0 ≡ 0
    → count_by is_stored places < length places
counted-fewer places block below none =
    let most = count_by-le-length is_stored (set places block (0 + 1)) in
    let more = counted-set places block 0 below none in
    let size = length-set places block (0 + 1) in
    omega arith

-- zeros behind blocks of 512 bytes
sized-more : (xs : List (List ℕ)) → All (λ block. length block ≡ 512) xs → All (λ block. length block ≡ 512) (xs ++ replicate 512 0 ∷ [])
sized-more xs sized = All-append (λ (block : List ℕ). length block ≡ 512) xs (replicate 512 0 ∷ []) sized zeros
  where
    zeros : All (λ (block : List ℕ). length block ≡ 512) (replicate {A = ℕ} 512 0 ∷ [])
    zeros i d inside = (let first : i ≡ 0 = omega arith in ap (λ (k : ℕ). length (slice_index_or (replicate {A = ℕ} 512 0 ∷ []) k d)) first ∙ length-replicate {A = ℕ} 512 0)

-- what is kept where a block gets a place
pub settled : (capacity : ℕ) (places : List ℕ) (stored : List (List ℕ)) (block : ℕ) → IsStored capacity places stored → block < length places
    → slice_index_or places block 0 ≡ 0 → IsStored capacity (set places block (length stored + 1)) (stored ++ replicate 512 0 ∷ [])
settled capacity places stored block is below none =
    let size = length-set places block (length stored + 1) in
    let more : length (stored ++ replicate 512 0 ∷ []) ≡ length stored + 1 = length-append stored (replicate 512 0 ∷ []) in
    record {
      sized = sized-more stored is.sized;
      there =
          All-set (λ p. p ≤ length (stored ++ replicate 512 0 ∷ [])) places block (length stored + 1) (omega arith)
          (λ i d inside. let low = is.there i d inside in omega arith);
      apart = apart-set places block (length stored) is.apart is.there;
      counted = counted-set places block (length stored) below none ∙ ap (λ (n : ℕ). n + 1) is.counted ∙ sym more;
      room = (let room = is.room in omega arith);
      few = (let few = is.few in omega arith);
    }

-- and where a block that has one gets other bytes
pub stored-set : (capacity : ℕ) (places : List ℕ) (stored : List (List ℕ)) (at : ℕ) (bytes : List ℕ) → IsStored capacity places stored → length bytes ≡ 512
    → IsStored capacity places (set stored at bytes)
stored-set capacity places stored at bytes is sized =
    let size = length-set stored at bytes in
    record {
      sized = All-set (λ block. length block ≡ 512) stored at bytes sized is.sized;
      there = λ i d inside. (let low = is.there i d inside in omega arith);
      apart = is.apart;
      counted = is.counted ∙ sym size;
      room = is.room;
      few = is.few;
    }

-- ---- the start

pub apart-none : (n : ℕ) → AreApart (replicate n 0)
unfolding AreApart
apart-none zero = tt
apart-none (suc n) = (inl refl, apart-none n)

pub counted-none : (n : ℕ) → count_by is_stored (replicate n 0) ≡ 0
counted-none zero = refl
counted-none (suc n) = sum_by-cons (λ p. cond (is_stored p) 1 0) 0 (replicate n 0) ∙ (let rest = counted-none n in omega arith)

pub blocks-none : (stored : List (List ℕ)) (n : ℕ) → blocks_of stored (replicate n 0) ≡ replicate n (replicate 512 0)
unfolding blocks_of
blocks-none stored zero = refl
blocks-none stored (suc n) =
    ap (λ (b : List ℕ). b ∷ map (shown stored) (replicate n 0)) (shown-none stored 0 (blank-none 0 refl))
    ∙ ap (λ (bs : List (List ℕ)). replicate 512 0 ∷ bs) (blocks-none stored n)

pub places-none : (n : ℕ) → places_of (replicate n 0) ≡ replicate n 0
unfolding places_of
places-none zero = refl
places-none (suc n) = ap (λ (ps : List ℕ). 0 ∷ ps) (places-none n)

-- no block has a place
pub stored-none : (capacity n : ℕ) → n ≤ capacity → n < 2 ^ 31 → IsStored capacity (replicate n 0) []
stored-none capacity n room few =
    let size = length-replicate {A = ℕ} n 0 in
    record {
      sized = λ i d inside. absurd (omega arith);
      there = λ i d inside. (let all = get_or-replicate n i 0 d (omega arith) in omega arith);
      apart = apart-none n;
      counted = counted-none n;
      room = omega arith;
      few = omega arith;
    }

-- ---- bytes that are put where a block is stored

pub put-kept : (before behind : ℕ) (places : List ℕ) (stored new : List (List ℕ)) (at : ℕ) (bytes : List ℕ) → IsStored before places stored → length bytes ≡ 512
    → new ≡ set stored at bytes → behind ≡ before → IsStored behind places new
put-kept before behind places stored new at bytes is sized put room =
    let W : List (List ℕ) → Type 0 = λ xs. IsStored behind places xs in
    let X : ℕ → Type 0 = λ n. IsStored n places (set stored at bytes) in
    subst W (sym put) (subst X (sym room) (stored-set before places stored at bytes is sized))

-- the entry says so, and nothing else has changed
pub written-kept : (before behind : ℕ) (entries shows : List ℕ) (stored new : List (List ℕ)) (block at : ℕ) (bytes : List ℕ)
    → IsStored before (places_of entries) stored → length bytes ≡ 512 → slice_index_or entries block 0 / 2 ≡ at + 1
    → new ≡ set stored at bytes → behind ≡ before → shows ≡ set entries block (2 * (at + 1)) → IsStored behind (places_of shows) new
written-kept before behind entries shows stored new block at bytes is sized place put room show =
    let half : 2 * (at + 1) / 2 ≡ at + 1 = omega arith in
    let W : List ℕ → Type 0 = λ places. IsStored behind places new in
    subst W (sym (ap places_of show ∙ places-same entries block (2 * (at + 1)) (half ∙ sym place)))
    (put-kept before behind (places_of entries) stored new at bytes is sized put room)

pub written-shown : (capacity : ℕ) (entries shows : List ℕ) (stored new : List (List ℕ)) (block at : ℕ) (bytes : List ℕ) → IsStored capacity (places_of entries) stored
    → block < length entries → slice_index_or entries block 0 / 2 ≡ at + 1 → at < length stored → new ≡ set stored at bytes → shows ≡ set entries block (2 * (at + 1))
    → blocks_of new shows ≡ set (blocks_of stored entries) block bytes
unfolding blocks_of places_of
written-shown capacity entries shows stored new block at bytes is below place there put show =
    let next : at + 1 ≡ suc at = omega arith in
    ap (λ (xs : List (List ℕ)). map (shown xs) shows) put
    ∙ ap (λ (es : List ℕ). map (shown (set stored at bytes)) es) show
    ∙ block-set stored entries block at bytes is.apart below (place ∙ next) there

-- ---- rows

-- entries that follow one another show what is stored in a row
pub row-shown : (stored : List (List ℕ)) (entries : List ℕ) (block first at n : ℕ) → block + n ≤ length entries → at + n ≤ length stored
    → is_blank first ≡ false → first / 2 ≡ at + 1
    → ((i : ℕ) → i < n → slice_index_or entries (block + i) 0 ≡ first + 2 * i)
    → take n (drop block (blocks_of stored entries)) ≡ take n (drop at stored)
row-shown stored entries block first at zero within there told place row = refl
row-shown stored entries block first at (suc n) within there told place row =
    let same = length-blocks stored entries in
    let next : suc block ≡ block + 1 = omega arith in
    let more : suc at ≡ at + 1 = omega arith in
    let start : block ≡ block + 0 = omega arith in
    let entry : slice_index_or entries block 0 ≡ first = ap (λ (k : ℕ). slice_index_or entries k 0) start ∙ row 0 (omega arith) ∙ omega arith in
    let index : first / 2 - 1 ≡ at = omega arith in
    let here : slice_index_or (blocks_of stored entries) block [] ≡ slice_index_or stored at [] =
    block-shown stored entries block [] (omega arith) ∙ ap (shown stored) entry ∙ shown-some stored first told ∙ ap (λ (k : ℕ). slice_index_or stored k []) index in
    let step : 2 * 1 ≡ 2 = omega arith in
    let told-next : is_blank (first + 2) ≡ false = ap (λ (k : ℕ). is_blank (first + k)) (sym step) ∙ stored-behind first 1 told in
    let place-next : (first + 2) / 2 ≡ at + 1 + 1 = omega arith in
    let rest : take n (drop (block + 1) (blocks_of stored entries)) ≡ take n (drop (at + 1) stored) =
    row-shown stored entries (block + 1) (first + 2) (at + 1) n (omega arith) (omega arith) told-next place-next
    (λ i below. let k : block + 1 + i ≡ block + suc i = omega arith in
    ap (λ (j : ℕ). slice_index_or entries j 0) k ∙ row (suc i) (omega arith) ∙ omega arith) in
    ap (λ (bs : List (List ℕ)). take (suc n) bs) (drop-cons (blocks_of stored entries) block [] (omega arith))
    ∙ ap (λ (b : List ℕ). b ∷ take n (drop (suc block) (blocks_of stored entries))) here
    ∙ ap (λ (k : ℕ). slice_index_or stored at [] ∷ take n (drop k (blocks_of stored entries))) next
    ∙ ap (λ (bs : List (List ℕ)). slice_index_or stored at [] ∷ bs) rest
    ∙ ap (λ (k : ℕ). slice_index_or stored at [] ∷ take n (drop k stored)) (sym more)
    ∙ ap (λ (bs : List (List ℕ)). take (suc n) bs) (sym (drop-cons stored at [] (omega arith)))

-- blocks of zeros are a row
pub row-blank : (stored : List (List ℕ)) (entries : List ℕ) (block n : ℕ) → block + n ≤ length entries
    → ((i : ℕ) → i < n → is_blank (slice_index_or entries (block + i) 0) ≡ true)
    → take n (drop block (blocks_of stored entries)) ≡ replicate n (replicate 512 0)
row-blank stored entries block zero within blank = refl
row-blank stored entries block (suc n) within blank =
    let same = length-blocks stored entries in
    let next : suc block ≡ block + 1 = omega arith in
    let start : block + 0 ≡ block = omega arith in
    let first : is_blank (slice_index_or entries block 0) ≡ true = ap (λ (k : ℕ). is_blank (slice_index_or entries k 0)) (sym start) ∙ blank 0 (omega arith) in
    let here : slice_index_or (blocks_of stored entries) block [] ≡ replicate 512 0 =
    block-shown stored entries block [] (omega arith) ∙ shown-none stored (slice_index_or entries block 0) first in
    let rest : take n (drop (block + 1) (blocks_of stored entries)) ≡ replicate n (replicate 512 0) =
    row-blank stored entries (block + 1) n (omega arith)
    (λ i below. let k : block + 1 + i ≡ block + suc i = omega arith in ap (λ (j : ℕ). is_blank (slice_index_or entries j 0)) k ∙ blank (suc i) (omega arith)) in
    ap (λ (bs : List (List ℕ)). take (suc n) bs) (drop-cons (blocks_of stored entries) block [] (omega arith))
    ∙ ap (λ (b : List ℕ). b ∷ take n (drop (suc block) (blocks_of stored entries))) here
    ∙ ap (λ (k : ℕ). replicate 512 0 ∷ take n (drop k (blocks_of stored entries))) next
    ∙ ap (λ (bs : List (List ℕ)). replicate 512 0 ∷ bs) rest

-- the end of a row is stored, too
pub row-inside : (stored : List (List ℕ)) (entries : List ℕ) (block first n : ℕ) → All (λ place. place ≤ length stored) (places_of entries) → 0 < n
    → block + n ≤ length entries → ((i : ℕ) → i < n → slice_index_or entries (block + i) 0 ≡ first + 2 * i) → first / 2 + n ≤ length stored + 1
row-inside stored entries block first n there some within row =
    let last = row (n - 1) (omega arith) in
    let size = length-places entries in
    let place = place-told entries (block + (n - 1)) (omega arith) in
    let low = there (block + (n - 1)) 0 (omega arith) in
    let half : (first + 2 * (n - 1)) / 2 ≡ first / 2 + (n - 1) = omega arith in
    let at : slice_index_or entries (block + (n - 1)) 0 / 2 ≡ (first + 2 * (n - 1)) / 2 = ap (λ (k : ℕ). k / 2) last in
    omega arith

-- ---- an entry that was read

-- its place is among those that are stored
pub entry-there : (n : ℕ) (entries : List ℕ) (block entry : ℕ) → All (λ place. place ≤ n) (places_of entries) → block < length entries
    → entry ≡ slice_index_or entries block 0 → entry / 2 ≤ n
entry-there n entries block entry there below is =
    let size = length-places entries in
    let low = there block 0 (omega arith) in
    let place = place-told entries block below in
    let half : entry / 2 ≡ slice_index_or entries block 0 / 2 = ap (λ (k : ℕ). k / 2) is in
    omega arith

pub shown-told : (stored : List (List ℕ)) (entry told : ℕ) → entry ≡ told → is_blank told ≡ false → shown stored entry ≡ slice_index_or stored (told / 2 - 1) []
shown-told stored entry told is blank = ap (shown stored) is ∙ shown-some stored told blank
