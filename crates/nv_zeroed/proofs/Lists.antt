-- What a chunk shows, and chunks that lie one behind the other, as lists of bytes.
use Rattle.std.proofs.Common.{◌≡◌, ◌==◌, Option, Some, None, Bool, true, false, not, true≢false, if◌then◌else◌}
use Rattle.std.proofs.Common.{ℕ, zero, suc, ◌+◌, ◌-◌, ◌*◌, ◌/◌, ◌%◌, ◌<◌, ◌≤◌}
use Rattle.std.proofs.Common.{◌⊎◌, List, [], ◌∷◌, ◌++◌, length, take, drop, replicate, slice_index_or, slice_set, arith, refl, sym, ap, subst, ◌∙◌, inl, inr}
use Rattle.std.proofs.Common.{append_assoc}
use Rattle.std.proofs.Math.Nat.{div-add-mod, mul_comm, mul-suc}
use Rattle.std.proofs.lemmas.Nat.{div_below}
use Rattle.std.specs.List.{All}
use Rattle.std.specs.Prelude.{MatchOption, ⊤}
use Rattle.std.proofs.lemmas.List.{drop-append-le, drop-drop, drop-replicate, length-append, length-drop, length-replicate, length-set, length-take-le}
use Rattle.std.proofs.lemmas.List.{replicate-append-replicate, set-append_left, set-append_right, take-append-le, take-append-drop, take-replicate, take-take}
use Rattle.std.proofs.lemmas.List.{take_all, take_rest, drop-take, get_or-append_right, get_or_append_left}
use Rattle.std.proofs.lemmas.Bool.{eqb-false, eqb-true}
use lib.Pointwise.{bytes_decides, pointwise}
use Rattle.std.proofs.Math.Dec.{eqb}
use borrow.Rule.Slice.PartMut.{Post-is, put_mid}
use Rattle.std.proofs.lemmas.List.Elements.{All-replicate, All-set}
use Rattle.std.proofs.Math.Seq.{drop-append-add, take-add, paste, take-append-add, take-append_seam}
use Rattle.nv_zeroed.specs.Chunks.{after_store, bytes_at, IsChunk, IsMemory, joined, laid, memory_of}

-- ---- one chunk

-- a chunk without bytes shows zeros
pub laid-none : (size : ℕ) (bytes : List ℕ) → length bytes ≡ 0 → laid size bytes ≡ replicate size 0
unfolding laid
laid-none size [] empty = refl
laid-none size (byte ∷ rest) some = absurd (omega arith)

-- one with bytes shows them
pub laid-some : (size : ℕ) (bytes : List ℕ) → 0 < length bytes → laid size bytes ≡ bytes
unfolding laid
laid-some size [] empty = absurd (omega arith)
laid-some size (byte ∷ rest) some = refl

-- a chunk shows as many bytes as it has room for
pub length-laid : (size capacity : ℕ) (bytes : List ℕ) → IsChunk size capacity bytes → length (laid size bytes) ≡ size
unfolding laid
length-laid size capacity [] chunk = length-replicate size 0
length-laid size capacity (byte ∷ rest) chunk =
    elim chunk.whole [ inl none ↦ (let empty : length (byte ∷ rest) ≡ 0 = ap (λ (xs : List ℕ). length xs) none in absurd (omega arith)) | inr all ↦ all ]

-- a part of zeros
pub zeros-part : (size at n : ℕ) → at + n ≤ size → bytes_at (replicate size 0) at n ≡ replicate n 0
zeros-part size at n inside =
    ap (take n) (drop-replicate at size 0) ∙ take-replicate n (size - at) 0 (omega arith)

-- a test for no bytes
pub told-none : (n : ℕ) (empty : Bool) → empty ≡ (n == 0) → empty ≡ true → n ≡ 0
told-none n empty told test = eqb-true n 0 (sym told ∙ test)

pub told-some : (n : ℕ) (empty : Bool) → empty ≡ (n == 0) → empty ≡ false → 0 < n
told-some zero empty told test = absurd (eqb-false 0 0 (sym told ∙ test) refl)
told-some (suc n) empty told test = omega arith

-- the bytes that a chunk gets are those that it shows
pub resized : (size n : ℕ) (ok : Bool) (old new : List ℕ) → length old ≡ 0 → n ≡ 0 → ok ≡ true
    → new ≡ (if ok then take size old ++ replicate (size - n) 0 else old) → new ≡ laid size old
unfolding laid
resized size n ok [] new empty none grown is =
    let nothing : take size [] ≡ [] = take_all size [] (omega arith) in
    let all : size - n ≡ size = omega arith in
    is
    ∙ ap (λ (b : Bool). if b then take size [] ++ replicate (size - n) 0 else []) grown
    ∙ ap (λ (xs : List ℕ). xs ++ replicate (size - n) 0) nothing
    ∙ ap (λ (k : ℕ). replicate k 0) all
resized size n ok (byte ∷ rest) new some none grown is = absurd (omega arith)

-- ---- a part of a list

-- a part of the front
pub front-part : (len at n : ℕ) (xs : List ℕ) → at + n ≤ len → bytes_at (take len xs) at n ≡ bytes_at xs at n
front-part zero at zero xs inside = refl
front-part zero at (suc n) xs inside = absurd (omega arith)
front-part (suc len) zero n [] inside = refl
front-part (suc len) zero n (x ∷ xs) inside = take-take n (suc len) (x ∷ xs) (omega arith)
front-part (suc len) (suc at) n [] inside = refl
front-part (suc len) (suc at) n (x ∷ xs) inside = front-part len at n xs (omega arith)

-- a part of what stands in front
pub part-before : (at n : ℕ) (xs ys : List ℕ) → at + n ≤ length xs → bytes_at (xs ++ ys) at n ≡ bytes_at xs at n
part-before at n xs ys inside =
    let left : length (drop at xs) ≡ length xs - at = length-drop at xs in
    ap (take n) (drop-append-le at xs ys (omega arith)) ∙ take-append-le n (drop at xs) ys (omega arith)

-- a part of what stands behind
pub part-behind : (at n : ℕ) (xs ys : List ℕ) → bytes_at (xs ++ ys) (length xs + at) n ≡ bytes_at ys at n
part-behind at n xs ys = ap (take n) (drop-append-add xs ys at)

-- two parts, one behind the other
pub two-parts : (at n k : ℕ) (xs : List ℕ) → bytes_at xs at (n + k) ≡ bytes_at xs at n ++ bytes_at xs (at + n) k
two-parts at n k xs = take-add n k (drop at xs) ∙ ap (λ (ys : List ℕ). take n (drop at xs) ++ take k ys) (drop-drop n at xs)

-- how many bytes a part has
pub part-len : (at n : ℕ) (xs : List ℕ) → at + n ≤ length xs → length (take (at + n - at) (drop at xs)) ≡ n
part-len at n xs inside =
    let left : length (drop at xs) ≡ length xs - at = length-drop at xs in
    let size : at + n - at ≡ n = omega arith in
    length-take-le (at + n - at) (drop at xs) (omega arith) ∙ size

-- how many bytes are read
pub length-part : (at n : ℕ) (xs : List ℕ) → at + n ≤ length xs → length (bytes_at xs at n) ≡ n
length-part at n xs inside =
    let left : length (drop at xs) ≡ length xs - at = length-drop at xs in
    length-take-le n (drop at xs) (omega arith)

-- a copy inside a list is a store of what is read
pub pasted : (from to n : ℕ) (xs : List ℕ) → from + n ≤ length xs → paste xs to (drop from xs) (from + n - from) ≡ after_store xs to (bytes_at xs from n)
pasted from to n xs inside =
    let size : from + n - from ≡ n = omega arith in
    ap (λ (k : ℕ). paste xs to (drop from xs) k) size
    ∙ ap (λ (k : ℕ). take to xs ++ take n (drop from xs) ++ drop (to + k) xs) (sym (length-part from n xs inside))

-- a part of what is read
pub read-of : (at n done k : ℕ) (xs : List ℕ) → done + k ≤ n → bytes_at (bytes_at xs at n) done k ≡ bytes_at xs (at + done) k
read-of at n done k xs inside = front-part n done k (drop at xs) inside ∙ ap (λ (ys : List ℕ). take k ys) (drop-drop done at xs)

-- as much is equal, and a part more
pub equal-more : (at done k : ℕ) (bytes xs : List ℕ) → bytes_at xs at done ≡ take done bytes → bytes_at xs (at + done) k ≡ take k (drop done bytes)
    → bytes_at xs at (done + k) ≡ take (done + k) bytes
equal-more at done k bytes xs front more =
    two-parts at done k xs
    ∙ ap (λ (ys : List ℕ). ys ++ bytes_at xs (at + done) k) front
    ∙ ap (λ (ys : List ℕ). take done bytes ++ ys) more
    ∙ sym (take-add done k bytes)

-- what is equal is equal in each part
pub equal-part : (at n done k : ℕ) (bytes xs : List ℕ) → done + k ≤ n → bytes_at xs at n ≡ bytes → bytes_at xs (at + done) k ≡ take k (drop done bytes)
equal-part at n done k bytes xs inside same = sym (read-of at n done k xs inside) ∙ ap (λ (ys : List ℕ). take k (drop done ys)) same

flipped : (b : Bool) → not b ≡ false → b ≡ true
flipped true told = refl
flipped false told = absurd (true≢false told)

-- a test of a part that tells it unlike
pub told-unlike : (there part : List ℕ) (unlike : Bool) → unlike ≡ not (pointwise eqb there part) → unlike ≡ true → there ≡ part → ⊥
told-unlike there part unlike told test same =
    let alike : pointwise eqb there part ≡ true = (bytes_decides there part).1 same in
    true≢false (sym (sym told ∙ test) ∙ ap not alike)

-- and one that tells it alike
pub told-alike : (there part : List ℕ) (unlike : Bool) → unlike ≡ not (pointwise eqb there part) → unlike ≡ false → there ≡ part
told-alike there part unlike told test = (bytes_decides there part).0 (flipped (pointwise eqb there part) (sym told ∙ test))

-- ---- a store

-- into what stands in front
pub store-before : (at : ℕ) (bytes xs ys : List ℕ) → at + length bytes ≤ length xs
    → after_store xs at bytes ++ ys ≡ after_store (xs ++ ys) at bytes
store-before at bytes xs ys inside =
    append_assoc (take at xs ++ bytes) (drop (at + length bytes) xs) ys
    ∙ ap (λ (zs : List ℕ). take at xs ++ bytes ++ zs) (sym (drop-append-le (at + length bytes) xs ys inside))
    ∙ ap (λ (zs : List ℕ). zs ++ bytes ++ drop (at + length bytes) (xs ++ ys)) (sym (take-append-le at xs ys (omega arith)))

-- into what stands behind
pub store-behind : (at : ℕ) (bytes xs ys : List ℕ) → xs ++ after_store ys at bytes ≡ after_store (xs ++ ys) (length xs + at) bytes
store-behind at bytes xs ys =
    sym (append_assoc xs (take at ys ++ bytes) (drop (at + length bytes) ys))
    ∙ ap (λ (zs : List ℕ). zs ++ drop (at + length bytes) ys) (sym (append_assoc xs (take at ys) bytes))
    ∙ ap (λ (zs : List ℕ). zs ++ bytes ++ drop (at + length bytes) ys) (sym (take-append-add xs ys at))
    ∙ ap (λ (zs : List ℕ). take (length xs + at) (xs ++ ys) ++ bytes ++ zs)
    (sym (drop-append-add xs ys (at + length bytes)) ∙ ap (λ (k : ℕ). drop k (xs ++ ys)) (omega arith))

-- into the front
pub store-front : (len at : ℕ) (bytes xs : List ℕ) → at + length bytes ≤ len → len ≤ length xs
    → take len (after_store xs at bytes) ≡ after_store (take len xs) at bytes
store-front len at bytes xs inside within =
    let front_len : length (take at xs) ≡ at = length-take-le at xs (omega arith) in
    let head_len : length (take at xs ++ bytes) ≡ at + length bytes = length-append (take at xs) bytes ∙ ap (λ (k : ℕ). k + length bytes) front_len in
    let split : len ≡ length (take at xs ++ bytes) + (len - (at + length bytes)) = omega arith in
    let whole : at + length bytes + (len - (at + length bytes)) ≡ len = omega arith in
    ap (λ (k : ℕ). take k (after_store xs at bytes)) split
    ∙ take-append-add (take at xs ++ bytes) (drop (at + length bytes) xs) (len - (at + length bytes))
    ∙ ap (λ (zs : List ℕ). take at xs ++ bytes ++ zs)
    (sym (drop-take (at + length bytes) (len - (at + length bytes)) xs) ∙ ap (λ (k : ℕ). drop (at + length bytes) (take k xs)) whole)
    ∙ ap (λ (zs : List ℕ). zs ++ bytes ++ drop (at + length bytes) (take len xs)) (sym (take-take at len xs (omega arith)))

-- it keeps the length
pub length-store : (at : ℕ) (bytes xs : List ℕ) → at + length bytes ≤ length xs → length (after_store xs at bytes) ≡ length xs
length-store at bytes xs inside =
    let front_len : length (take at xs) ≡ at = length-take-le at xs (omega arith) in
    let back_len : length (drop (at + length bytes) xs) ≡ length xs - (at + length bytes) = length-drop (at + length bytes) xs in
    let head_len : length (take at xs ++ bytes) ≡ length (take at xs) + length bytes = length-append (take at xs) bytes in
    let all : length (after_store xs at bytes) ≡ length (take at xs ++ bytes) + length (drop (at + length bytes) xs)
    = length-append (take at xs ++ bytes) (drop (at + length bytes) xs) in
    omega arith

-- a store by a slice
pub put-store : (at n : ℕ) (part xs : List ℕ) → length part ≡ n → put_mid at (at + n - at) xs part ≡ after_store xs at part
put-store at n part xs same =
    ap (λ (zs : List ℕ). take at xs ++ (part ++ zs)) (Post-is at (at + n) xs (omega arith) ∙ ap (λ (k : ℕ). drop (at + k) xs) (sym same))
    ∙ sym (append_assoc (take at xs) part (drop (at + length part) xs))

-- it changes what a chunk shows
pub stored : (size at n len : ℕ) (part xs old : List ℕ) → length part ≡ n → at + n ≤ size → length xs ≡ size → len ≡ size → 0 < size
    → laid size (take len (put_mid at (at + n - at) xs part ++ drop (length (put_mid at (at + n - at) xs part)) old)) ≡ after_store xs at part
stored size at n len part xs old same inside all whole some =
    let put : put_mid at (at + n - at) xs part ≡ after_store xs at part = put-store at n part xs same in
    let kept : length (after_store xs at part) ≡ length xs = length-store at part xs (omega arith) in
    let sized : length (put_mid at (at + n - at) xs part) ≡ length (after_store xs at part) = ap (λ (zs : List ℕ). length zs) put in
    let filled : 0 < length (put_mid at (at + n - at) xs part) = omega arith in
    let len_is : length (put_mid at (at + n - at) xs part) ≡ len = omega arith in
    ap (laid size)
    (ap (λ (k : ℕ). take k (put_mid at (at + n - at) xs part ++ drop (length (put_mid at (at + n - at) xs part)) old)) (sym len_is)
    ∙ take-append_seam (put_mid at (at + n - at) xs part) (drop (length (put_mid at (at + n - at) xs part)) old))
    ∙ laid-some size (put_mid at (at + n - at) xs part) filled
    ∙ put

-- two stores, one behind the other
pub two-stores : (at : ℕ) (front back xs : List ℕ) → at + length front ≤ length xs
    → after_store (after_store xs at front) (at + length front) back ≡ after_store xs at (front ++ back)
two-stores at front back xs inside =
    let start : length (take at xs) ≡ at = length-take-le at xs (omega arith) in
    let head : length (take at xs ++ front) ≡ at + length front = length-append (take at xs) front ∙ ap (λ (k : ℕ). k + length front) start in
    let both : length (front ++ back) ≡ length front + length back = length-append front back in
    let past : at + length front + length back ≡ at + length (front ++ back) = omega arith in
    let rest : drop (at + length front + length back) (after_store xs at front) ≡ drop (at + length (front ++ back)) xs =
    ap (λ (k : ℕ). drop (k + length back) (after_store xs at front)) (sym head)
    ∙ drop-append-add (take at xs ++ front) (drop (at + length front) xs) (length back)
    ∙ drop-drop (length back) (at + length front) xs
    ∙ ap (λ (k : ℕ). drop k xs) past in
    let first : take (at + length front) (after_store xs at front) ≡ take at xs ++ front =
    ap (λ (k : ℕ). take k (after_store xs at front)) (sym head) ∙ take-append_seam (take at xs ++ front) (drop (at + length front) xs) in
    ap (λ (ys : List ℕ). ys ++ back ++ drop (at + length front + length back) (after_store xs at front)) first
    ∙ ap (λ (ys : List ℕ). take at xs ++ front ++ back ++ ys) rest
    ∙ ap (λ (ys : List ℕ). ys ++ drop (at + length (front ++ back)) xs) (append_assoc (take at xs) front back)

-- a store in two parts
pub store-in-two : (at k : ℕ) (bytes xs : List ℕ) → k ≤ length bytes → at + length bytes ≤ length xs
    → after_store (after_store xs at (take k bytes)) (at + k) (take (length bytes - k) (drop k bytes)) ≡ after_store xs at bytes
store-in-two at k bytes xs some inside =
    let front : length (take k bytes) ≡ k = length-take-le k bytes some in
    ap (λ (ys : List ℕ). after_store (after_store xs at (take k bytes)) (at + k) ys) (take_rest bytes k)
    ∙ ap (λ (j : ℕ). after_store (after_store xs at (take k bytes)) (at + j) (drop k bytes)) (sym front)
    ∙ two-stores at (take k bytes) (drop k bytes) xs (omega arith)
    ∙ ap (λ (ys : List ℕ). after_store xs at ys) (take-append-drop k bytes)

-- a read in two parts
pub read-in-two : (at k n j total : ℕ) (xs : List ℕ) → n ≡ k → total ≡ n + j → bytes_at xs at n ++ bytes_at xs (at + k) j ≡ bytes_at xs at total
read-in-two at k n j total xs same all =
    ap (λ (i : ℕ). bytes_at xs at n ++ bytes_at xs (at + i) j) (sym same)
    ∙ sym (two-parts at n j xs)
    ∙ ap (λ (i : ℕ). bytes_at xs at i) (sym all)

-- a store changes nothing in front of it
pub read-before : (at n to : ℕ) (bytes xs : List ℕ) → at + n ≤ to → to ≤ length xs → bytes_at (after_store xs to bytes) at n ≡ bytes_at xs at n
read-before at n to bytes xs before inside =
    let start : length (take to xs) ≡ to = length-take-le to xs inside in
    ap (λ (ys : List ℕ). bytes_at ys at n) (append_assoc (take to xs) bytes (drop (to + length bytes) xs))
    ∙ part-before at n (take to xs) (bytes ++ drop (to + length bytes) xs) (omega arith)
    ∙ front-part to at n xs before

-- and nothing behind it
pub read-behind : (at n to : ℕ) (bytes xs : List ℕ) → to + length bytes ≤ at → to ≤ length xs → bytes_at (after_store xs to bytes) at n ≡ bytes_at xs at n
read-behind at n to bytes xs behind inside =
    let start : length (take to xs) ≡ to = length-take-le to xs inside in
    let head : length (take to xs ++ bytes) ≡ to + length bytes = length-append (take to xs) bytes ∙ ap (λ (k : ℕ). k + length bytes) start in
    let past : at ≡ length (take to xs ++ bytes) + (at - (to + length bytes)) = omega arith in
    let whole : to + length bytes + (at - (to + length bytes)) ≡ at = omega arith in
    ap (λ (k : ℕ). bytes_at (after_store xs to bytes) k n) past
    ∙ part-behind (at - (to + length bytes)) n (take to xs ++ bytes) (drop (to + length bytes) xs)
    ∙ ap (λ (ys : List ℕ). take n ys) (drop-drop (at - (to + length bytes)) (to + length bytes) xs ∙ ap (λ (k : ℕ). drop k xs) whole)

-- a copy in two parts, to where nothing is read
pub copy-in-two : (from to k n : ℕ) (xs : List ℕ) → k ≤ n → from + n ≤ length xs → to + n ≤ length xs → (from + n ≤ to) ⊎ (to + n ≤ from)
    → after_store (after_store xs to (bytes_at xs from k)) (to + k) (bytes_at (after_store xs to (bytes_at xs from k)) (from + k) (n - k))
    ≡ after_store xs to (bytes_at xs from n)
copy-in-two from to k n xs some read written apart =
    let count : length (bytes_at xs from k) ≡ k = length-part from k xs (omega arith) in
    let whole : k + (n - k) ≡ n = omega arith in
    let same : bytes_at (after_store xs to (bytes_at xs from k)) (from + k) (n - k) ≡ bytes_at xs (from + k) (n - k) =
    elim apart [
      | inl front ↦ read-before (from + k) (n - k) to (bytes_at xs from k) xs (omega arith) (omega arith)
      | inr back ↦ read-behind (from + k) (n - k) to (bytes_at xs from k) xs (omega arith) (omega arith)
    ] in
    ap (λ (ys : List ℕ). after_store (after_store xs to (bytes_at xs from k)) (to + k) ys) same
    ∙ ap (λ (j : ℕ). after_store (after_store xs to (bytes_at xs from k)) (to + j) (bytes_at xs (from + k) (n - k))) (sym count)
    ∙ two-stores to (bytes_at xs from k) (bytes_at xs (from + k) (n - k)) xs (omega arith)
    ∙ ap (λ (ys : List ℕ). after_store xs to ys) (sym (two-parts from k (n - k) xs) ∙ ap (λ (j : ℕ). bytes_at xs from j) whole)

-- ---- chunks one behind the other

-- the chunks behind the first
each-rest : (size : ℕ) (c : List ℕ) (cs : List (List ℕ)) → All (λ (chunk : List ℕ). length chunk ≡ size) (c ∷ cs)
    → All (λ (chunk : List ℕ). length chunk ≡ size) cs
each-rest size c cs each = λ k d below. each (suc k) d (omega arith)

-- where a byte of a later chunk lies
later : (size p k : ℕ) → size * suc p + k ≡ size + (size * p + k)
later size p k = let more : size * suc p ≡ size * p + size = mul-suc size p in omega arith

pub length-joined : (size : ℕ) (cs : List (List ℕ)) → All (λ (chunk : List ℕ). length chunk ≡ size) cs → length (joined cs) ≡ size * length cs
unfolding joined
length-joined size [] each = let none : 0 ≡ size * 0 = omega arith in none
length-joined size (c ∷ cs) each =
    let own : length c ≡ size = each 0 [] (omega arith) in
    let rest : length (joined cs) ≡ size * length cs = length-joined size cs (each-rest size c cs each) in
    let both : length (c ++ joined cs) ≡ length c + length (joined cs) = length-append c (joined cs) in
    let more : size * suc (length cs) ≡ size * length cs + size = mul-suc size (length cs) in
    both ∙ omega arith

-- a part of one chunk
pub part-joined : (size p k n : ℕ) (cs : List (List ℕ)) (d : List ℕ) → All (λ (chunk : List ℕ). length chunk ≡ size) cs → p < length cs → k + n ≤ size
    → bytes_at (joined cs) (size * p + k) n ≡ bytes_at (slice_index_or cs p d) k n
unfolding joined
part-joined size p k n [] d each below inside = absurd (omega arith)
part-joined size zero k n (c ∷ cs) d each below inside =
    let own : length c ≡ size = each 0 [] (omega arith) in
    let first : size * 0 + k ≡ k = omega arith in
    ap (λ (j : ℕ). bytes_at (c ++ joined cs) j n) first ∙ part-before k n c (joined cs) (omega arith)
part-joined size (suc p) k n (c ∷ cs) d each below inside =
    let own : length c ≡ size = each 0 [] (omega arith) in
    ap (λ (j : ℕ). bytes_at (c ++ joined cs) j n) (later size p k ∙ ap (λ (j : ℕ). j + (size * p + k)) (sym own))
    ∙ part-behind (size * p + k) n c (joined cs)
    ∙ part-joined size p k n cs d (each-rest size c cs each) (omega arith) inside

-- a store into one chunk
pub store-joined : (size p k : ℕ) (bytes : List ℕ) (cs : List (List ℕ)) (d : List ℕ) → All (λ (chunk : List ℕ). length chunk ≡ size) cs → p < length cs
    → k + length bytes ≤ size
    → joined (slice_set cs p (after_store (slice_index_or cs p d) k bytes)) ≡ after_store (joined cs) (size * p + k) bytes
unfolding joined
store-joined size p k bytes [] d each below inside = absurd (omega arith)
store-joined size zero k bytes (c ∷ cs) d each below inside =
    let own : length c ≡ size = each 0 [] (omega arith) in
    let first : size * 0 + k ≡ k = omega arith in
    store-before k bytes c (joined cs) (omega arith) ∙ ap (λ (j : ℕ). after_store (c ++ joined cs) j bytes) (sym first)
store-joined size (suc p) k bytes (c ∷ cs) d each below inside =
    let own : length c ≡ size = each 0 [] (omega arith) in
    ap (λ (xs : List ℕ). c ++ xs) (store-joined size p k bytes cs d (each-rest size c cs each) (omega arith) inside)
    ∙ store-behind (size * p + k) bytes c (joined cs)
    ∙ ap (λ (j : ℕ). after_store (c ++ joined cs) j bytes) (ap (λ (j : ℕ). j + (size * p + k)) own ∙ sym (later size p k))

-- ---- the memory

-- the chunk and the place in it of a byte of the memory
pub chunk-below : (size at len count : ℕ) → 0 < size → at < len → len ≤ size * count → at / size < count
chunk-below size at len count some below within =
    let swapped : count * size ≡ size * count = mul_comm count size in
    div_below at size count some (omega arith)

-- a part of the memory is a part of one chunk
pub part-of : (size at n len : ℕ) (cs : List (List ℕ)) (d : List ℕ) → 0 < size → IsMemory size len cs → 0 < n → at + n ≤ len → at % size + n ≤ size
    → bytes_at (memory_of len cs) at n ≡ bytes_at (slice_index_or cs (at / size) d) (at % size) n
unfolding memory_of
part-of size at n len cs d some memory bytes inside one =
    front-part len at n (joined cs) inside
    ∙ ap (λ (j : ℕ). bytes_at (joined cs) j n) (sym (div-add-mod at size))
    ∙ part-joined size (at / size) (at % size) n cs d memory.each (chunk-below size at len (length cs) some (omega arith) memory.enough) one

-- a store into one chunk is a store into the memory
pub store-of : (size at len : ℕ) (bytes : List ℕ) (cs : List (List ℕ)) (d : List ℕ) → 0 < size → IsMemory size len cs → 0 < length bytes
    → at + length bytes ≤ len → at % size + length bytes ≤ size
    → memory_of len (slice_set cs (at / size) (after_store (slice_index_or cs (at / size) d) (at % size) bytes)) ≡ after_store (memory_of len cs) at bytes
unfolding memory_of
store-of size at len bytes cs d some memory filled inside one =
    let below : at / size < length cs = chunk-below size at len (length cs) some (omega arith) memory.enough in
    let all : length (joined cs) ≡ size * length cs = length-joined size cs memory.each in
    let enough : len ≤ size * length cs = memory.enough in
    ap (take len) (store-joined size (at / size) (at % size) bytes cs d memory.each below one
    ∙ ap (λ (j : ℕ). after_store (joined cs) j bytes) (div-add-mod at size))
    ∙ store-front len at bytes (joined cs) inside (omega arith)

-- the memory has its length
pub length-memory : (size len : ℕ) (cs : List (List ℕ)) → IsMemory size len cs → length (memory_of len cs) ≡ len
unfolding memory_of
length-memory size len cs memory =
    let all : length (joined cs) ≡ size * length cs = length-joined size cs memory.each in
    let enough : len ≤ size * length cs = memory.enough in
    length-take-le len (joined cs) (omega arith)

-- a chunk is put in the place of one
pub memory-set : (size len p : ℕ) (chunk : List ℕ) (cs : List (List ℕ)) → IsMemory size len cs → length chunk ≡ size → IsMemory size len (slice_set cs p chunk)
memory-set size len p chunk cs memory same = record {
  each = All-set (λ (it : List ℕ). length it ≡ size) cs p chunk same memory.each;
  enough = subst (λ (count : ℕ). len ≤ size * count) (sym (length-set cs p chunk)) memory.enough;
}

-- ---- chunks of zeros

pub joined-zeros : (size n : ℕ) → joined (replicate n (replicate size 0)) ≡ replicate (size * n) 0
unfolding joined
joined-zeros size zero = let none : 0 ≡ size * 0 = omega arith in ap (λ (n : ℕ). replicate n 0) none
joined-zeros size (suc n) =
    let more : size + size * n ≡ size * suc n = sym (mul-suc size n ∙ omega arith) in
    ap (λ (xs : List ℕ). replicate size 0 ++ xs) (joined-zeros size n)
    ∙ replicate-append-replicate size (size * n) 0
    ∙ ap (λ (k : ℕ). replicate k 0) more

pub memory-zeros : (size len n : ℕ) → len ≤ size * n → memory_of len (replicate n (replicate size 0)) ≡ replicate len 0
unfolding memory_of
memory-zeros size len n within = ap (take len) (joined-zeros size n) ∙ take-replicate len (size * n) 0 within

pub memory-new : (size len n : ℕ) → len ≤ size * n → IsMemory size len (replicate n (replicate size 0))
memory-new size len n within = record {
  each = All-replicate (λ (it : List ℕ). length it ≡ size) n (replicate size 0) (length-replicate size 0);
  enough = subst (λ (count : ℕ). len ≤ size * count) (sym (length-replicate n (replicate size 0))) within;
}

-- the memory that a contract sees has as many bytes
pub length-view : (size len : ℕ) (cs : List (List ℕ)) (memory : List ℕ) → IsMemory size len cs → memory_of len cs ≡ memory → length memory ≡ len
length-view size len cs memory chunks view = ap (λ (xs : List ℕ). length xs) (sym view) ∙ length-memory size len cs chunks

-- ---- what a chunk of the memory shows and takes

-- the chunk of a byte is there
pub seat : (size at n len : ℕ) (cs : List (List ℕ)) (memory : List ℕ) → 0 < size → IsMemory size len cs → memory_of len cs ≡ memory → 0 < n
    → at + n ≤ length memory → at / size < length cs
seat size at n len cs memory some chunks view filled inside =
    let all : length memory ≡ len = length-view size len cs memory chunks view in
    chunk-below size at len (length cs) some (omega arith) chunks.enough

-- a part is read of the chunk that it lies in
pub read-part : (size p at n len : ℕ) (cs : List (List ℕ)) (chunk memory : List ℕ) → 0 < size → IsMemory size len cs → memory_of len cs ≡ memory → 0 < n
    → at + n ≤ length memory → at % size + n ≤ size → p ≡ at / size → chunk ≡ slice_index_or cs p chunk
    → bytes_at chunk (at % size) n ≡ bytes_at memory at n
read-part size p at n len cs chunk memory some chunks view filled inside one place is =
    let all : length memory ≡ len = length-view size len cs memory chunks view in
    ap (λ (xs : List ℕ). bytes_at xs (at % size) n) (is ∙ ap (λ (j : ℕ). slice_index_or cs j chunk) place)
    ∙ sym (part-of size at n len cs chunk some chunks filled (omega arith) one)
    ∙ ap (λ (xs : List ℕ). bytes_at xs at n) view

-- the length of such a chunk
pub length-chunk : (size p len : ℕ) (cs : List (List ℕ)) (chunk : List ℕ) → IsMemory size len cs → p < length cs → chunk ≡ slice_index_or cs p chunk
    → length chunk ≡ size
length-chunk size p len cs chunk chunks below is = ap (λ (xs : List ℕ). length xs) is ∙ chunks.each p chunk below

-- a part is written into the chunk that it lies in
pub set-part : (size p at len : ℕ) (bytes : List ℕ) (cs : List (List ℕ)) (old new memory : List ℕ) → 0 < size → IsMemory size len cs
    → memory_of len cs ≡ memory → 0 < length bytes → at + length bytes ≤ length memory → at % size + length bytes ≤ size → p ≡ at / size
    → old ≡ slice_index_or cs p old → new ≡ after_store old (at % size) bytes
    → memory_of len (slice_set cs p new) ≡ after_store memory at bytes
set-part size p at len bytes cs old new memory some chunks view filled inside one place is changed =
    let all : length memory ≡ len = length-view size len cs memory chunks view in
    ap (λ (j : ℕ). memory_of len (slice_set cs j new)) place
    ∙ ap (λ (xs : List ℕ). memory_of len (slice_set cs (at / size) xs))
    (changed ∙ ap (λ (xs : List ℕ). after_store xs (at % size) bytes) (is ∙ ap (λ (j : ℕ). slice_index_or cs j old) place))
    ∙ store-of size at len bytes cs old some chunks filled (omega arith) one
    ∙ ap (λ (xs : List ℕ). after_store xs at bytes) view

-- and the chunks are a memory's
pub set-whole : (size p k len : ℕ) (bytes : List ℕ) (cs : List (List ℕ)) (old new : List ℕ) → IsMemory size len cs → p < length cs
    → k + length bytes ≤ size → old ≡ slice_index_or cs p old → new ≡ after_store old k bytes → IsMemory size len (slice_set cs p new)
set-whole size p k len bytes cs old new chunks below one is changed =
    let sized : length old ≡ size = length-chunk size p len cs old chunks below is in
    let fits : k + length bytes ≤ length old = omega arith in
    memory-set size len p new cs chunks (ap (λ (xs : List ℕ). length xs) changed ∙ length-store k bytes old fits ∙ sized)

-- bytes that lie somewhere
pub found : {B : Type 0} (P : Type 0) (Q R : B → Type 0) (o : Option B) → ((b : B) → Q b → R b) → MatchOption o P Q → MatchOption o ⊤ R
found P Q R None same there = tt
found P Q R (Some b) same there = same b there

-- ---- two chunks at once

-- as many elements in the place of those that were there
pub refilled : {X : Type 0} (n : ℕ) (new old : List X) → length new ≡ n → take n (new ++ drop (length new) old) ≡ new
refilled n new old sized = ap (λ (k : ℕ). take k (new ++ drop (length new) old)) (sym sized) ∙ take-append_seam new (drop (length new) old)

-- one of the later half is changed
pub later-set : (items low high : List (List ℕ)) (target n : ℕ) (new : List ℕ) → items ≡ low ++ high → length low ≡ target → length items ≡ n
    → take n (low ++ slice_set high 0 new ++ drop (length (low ++ slice_set high 0 new)) items) ≡ slice_set items target new
later-set items low high target n new is front all =
    let first : target - target ≡ 0 = omega arith in
    let whole : low ++ slice_set high 0 new ≡ slice_set items target new =
    ap (λ (k : ℕ). low ++ slice_set high k new) (sym first)
    ∙ sym (set-append_right low high target target new front (omega arith))
    ∙ ap (λ (xs : List (List ℕ)). slice_set xs target new) (sym is) in
    refilled n (low ++ slice_set high 0 new) items (ap (λ (xs : List (List ℕ)). length xs) whole ∙ length-set items target new ∙ all) ∙ whole

-- one of the earlier half is changed
pub earlier-set : (items low high : List (List ℕ)) (target n : ℕ) (new : List ℕ) → items ≡ low ++ high → target < length low → length items ≡ n
    → take n (slice_set low target new ++ high ++ drop (length (slice_set low target new ++ high)) items) ≡ slice_set items target new
earlier-set items low high target n new is below all =
    let whole : slice_set low target new ++ high ≡ slice_set items target new =
    sym (set-append_left low high target new below) ∙ ap (λ (xs : List (List ℕ)). slice_set xs target new) (sym is) in
    refilled n (slice_set low target new ++ high) items (ap (λ (xs : List (List ℕ)). length xs) whole ∙ length-set items target new ∙ all) ∙ whole

-- a part of one chunk is copied into one chunk
pub copied : (size p q from to n len : ℕ) (cs : List (List ℕ)) (source target new memory : List ℕ) → 0 < size → IsMemory size len cs
    → memory_of len cs ≡ memory → 0 < n → from + n ≤ length memory → to + n ≤ length memory → from % size + n ≤ size → to % size + n ≤ size
    → q ≡ from / size → p ≡ to / size → source ≡ slice_index_or cs q source → target ≡ slice_index_or cs p target
    → new ≡ after_store target (to % size) (bytes_at source (from % size) n)
    → (memory_of len (slice_set cs p new) ≡ after_store memory to (bytes_at memory from n)) × IsMemory size len (slice_set cs p new)
copied size p q from to n len cs source target new memory some chunks view filled from_inside to_inside from_one to_one from_is to_is source_is target_is changed =
    let part : bytes_at source (from % size) n ≡ bytes_at memory from n =
    read-part size q from n len cs source memory some chunks view filled from_inside from_one from_is source_is in
    let count : length (bytes_at memory from n) ≡ n = length-part from n memory from_inside in
    let stores : new ≡ after_store target (to % size) (bytes_at memory from n) =
    changed ∙ ap (λ (xs : List ℕ). after_store target (to % size) xs) part in
    let below : p < length cs = subst (λ (j : ℕ). j < length cs) (sym to_is) (seat size to n len cs memory some chunks view filled to_inside) in
    let one : to % size + length (bytes_at memory from n) ≤ size = omega arith in
    let inside : to + length (bytes_at memory from n) ≤ length memory = omega arith in
    let bytes : 0 < length (bytes_at memory from n) = omega arith in (
      set-part size p to len (bytes_at memory from n) cs target new memory some chunks view bytes inside one to_is target_is stores,
      set-whole size p (to % size) len (bytes_at memory from n) cs target new chunks below one target_is stores,
    )

-- one of the later half is one of the whole
pub later-at : (items low high : List (List ℕ)) (target : ℕ) (chunk : List ℕ) → items ≡ low ++ high → length low ≡ target
    → chunk ≡ slice_index_or high 0 chunk → chunk ≡ slice_index_or items target chunk
later-at items low high target chunk is front here =
    let first : 0 ≡ target - target = omega arith in
    here
    ∙ ap (λ (k : ℕ). slice_index_or high k chunk) first
    ∙ sym (get_or-append_right low high target target chunk front (omega arith))
    ∙ ap (λ (xs : List (List ℕ)). slice_index_or xs target chunk) (sym is)

-- and so is one of the earlier half
pub earlier-at : (items low high : List (List ℕ)) (at : ℕ) (chunk : List ℕ) → items ≡ low ++ high → at < length low
    → chunk ≡ slice_index_or low at chunk → chunk ≡ slice_index_or items at chunk
earlier-at items low high at chunk is below here =
    here ∙ sym (get_or_append_left low high chunk at below) ∙ ap (λ (xs : List (List ℕ)). slice_index_or xs at chunk) (sym is)

-- as many alike, and one more
pub one-more : (n : ℕ) (one alike : List ℕ) (before after : List (List ℕ)) → before ≡ replicate n alike → one ≡ alike → after ≡ before ++ one ∷ []
    → after ≡ replicate (n + 1) alike
one-more n one alike before after all same pushed =
    pushed
    ∙ ap (λ (xs : List (List ℕ)). xs ++ one ∷ []) all
    ∙ ap (λ (x : List ℕ). replicate n alike ++ x ∷ []) same
    ∙ replicate-append-replicate n 1 alike
