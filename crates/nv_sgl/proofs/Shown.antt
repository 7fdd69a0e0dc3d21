-- Lemmas on a dialogue that is fed what a memory shows where it asks.
use Rattle.std.proofs.Common.{◌≡◌, ℕ, zero, suc, ◌+◌, ◌*◌, ◌<◌, ◌≤◌, Bool, true, false, not, ◌==◌}
use Rattle.std.proofs.Common.{List, ◌++◌, drop, Option, Some, None, arith, refl, sym, ◌∙◌, ap, subst, if◌then◌else◌}
use Rattle.std.proofs.lemmas.Bool.Decides.{nat_tests}
use Rattle.nv_entry.specs.Descriptor.{kind_of}
use Rattle.nv_entry.specs.declared.descriptor_type.DescriptorType.{DescriptorType}
use Rattle.nv_entry.specs.declared.descriptor_type.DescriptorType.TheVariants.{DataBlock, BitBucket, Segment, LastSegment}
use Rattle.nv_entry.specs.declared.status_code.StatusCode.{StatusCode}
use Rattle.nv_mem.specs.GuestMap.{mapped}
use Rattle.nv_mem.specs.declared.piece.Piece.{Piece}
use Rattle.nv_model.specs.Dialogue.{Dialogue, in_memory}
use Rattle.nv_model.specs.Judge.{sized}
use Rattle.nv_model.specs.Memory.{bytes_from}
use Rattle.nv_model.specs.Reading.{Reading, unless_faulty}
use Rattle.nv_model.specs.Sgl.{Array, array_by, fault_by, pieces_by, read_array, read_descriptor, segment_fault}
use Rattle.nv_model.specs.Transcript.{fed}
use Rattle.nv_sgl.specs.Parse.{Naming, Parse, dialogue_of, reading_of}
use Rattle.nv_model.specs.Want.{want_of}
use Rattle.nv_model.specs.declared.want.Want.TheVariants as want
use Rattle.nv_model.proofs.Feedings.{drop-bytes_from, fed-and_then, fed-some, in_memory-end, take-bytes_from, KeepsEnd, KeepsEnd-fault, KeepsEnd-nil}
use Rattle.nv_sgl.proofs.Parses.{dialogue_of-naming, naming_of, want_of-part_of, IsPart}

KeepsEnd-last : (m : ℕ → ℕ) (d : Dialogue Reading) (from n : ℕ) → n ≡ 0 → KeepsEnd m d (bytes_from m from (16 * n))
unfolding bytes_from
KeepsEnd-last m d from n none = rw none (KeepsEnd-nil m d)

-- a Segment with no fault is last in its array
none_behind : (b c : Bool) (x y : StatusCode) (o : Option StatusCode)
    → (if b then Some x else if not c then Some y else o) ≡ None → c ≡ true
none_behind true c x y o none = cc
none_behind false true x y o none = refl
none_behind false false x y o none = cc

segment-last : (mapped : ℕ → Bool) (rest : Array) (d : List ℕ) → segment_fault mapped rest d ≡ None → rest.left ≡ 0
segment-last mapped rest d none =
    let is : (rest.left == 0) ≡ true = none_behind rest.by_last (rest.left == 0) _ _ _ none in
    grind (arith, nat_tests)

-- behind a descriptor, where feeding does in the rest of the array
KeepsEnd-behind : (m : ℕ → ℕ) (mapped : ℕ → Bool) (dest : Bool) (kind : Option DescriptorType) (budget n : ℕ) (rest : Array) (pieces : List Piece) (d : List ℕ)
    → n ≤ rest.left
    → ((ps : List Piece) → KeepsEnd m (read_array mapped dest budget rest.left rest.from rest.by_last ps) (bytes_from m rest.from (16 * n)))
    → KeepsEnd m (unless_faulty (fault_by kind mapped rest d)
    (let a : Array = array_by kind rest d in read_array mapped dest budget a.left a.from a.by_last (pieces ++ pieces_by kind dest d)))
    (bytes_from m rest.from (16 * n))
unfolding fed
KeepsEnd-behind m mapped dest None budget n rest pieces d within keeps = record { same = refl }
KeepsEnd-behind m mapped dest (Some DataBlock) budget n rest pieces d within keeps =
    KeepsEnd-fault m (fault_by (Some DataBlock) mapped rest d) _ _ (λ none. keeps (pieces ++ pieces_by (Some DataBlock) dest d))
KeepsEnd-behind m mapped dest (Some BitBucket) budget n rest pieces d within keeps = keeps (pieces ++ pieces_by (Some BitBucket) dest d)
KeepsEnd-behind m mapped dest (Some Segment) budget n rest pieces d within keeps =
    KeepsEnd-fault m (fault_by (Some Segment) mapped rest d) _ _ (λ none. KeepsEnd-last m _ rest.from n (let last = segment-last mapped rest d none in omega arith))
KeepsEnd-behind m mapped dest (Some LastSegment) budget n rest pieces d within keeps =
    KeepsEnd-fault m (fault_by (Some LastSegment) mapped rest d) _ _ (λ none. KeepsEnd-last m _ rest.from n (let last = segment-last mapped rest d none in omega arith))

-- descriptors of an array that are there are read as they would be asked for
KeepsEnd-array : (m : ℕ → ℕ) (mapped : ℕ → Bool) (dest : Bool) (n budget left from : ℕ) (by_last : Bool) (pieces : List Piece)
    → n ≤ left → KeepsEnd m (read_array mapped dest budget left from by_last pieces) (bytes_from m from (16 * n))
unfolding fed in_memory read_array
KeepsEnd-array m mapped dest zero budget left from by_last pieces within = KeepsEnd-last m _ from zero refl
KeepsEnd-array m mapped dest (suc n) budget zero from by_last pieces within = absurd (omega arith)
KeepsEnd-array m mapped dest (suc n) zero (suc left) from by_last pieces within = record { same = refl }
KeepsEnd-array m mapped dest (suc n) (suc budget) (suc left) from by_last pieces within =
    let all : Dialogue Reading = read_array mapped dest (suc budget) (suc left) from by_last pieces in
    let rest : Array = record { from = from + 16; left = left; by_last = by_last } in
    let next : List ℕ → Dialogue Reading = λ e. read_descriptor mapped dest rest pieces (λ a ps. read_array mapped dest budget a.left a.from a.by_last ps) e in
    let d : List ℕ = bytes_from m from 16 in
    let more : 16 * suc n ≡ 16 + 16 * n = omega arith in
    let fits : n ≤ left = omega arith in
    let some : 0 < 16 + 16 * n = omega arith in
    let keeps = KeepsEnd-behind m mapped dest (kind_of d) budget n rest pieces d fits (λ ps. KeepsEnd-array m mapped dest n budget left (from + 16) by_last ps fits) in
    record {
      same =
          ap (λ (k : ℕ). in_memory m (fed all (bytes_from m from k))) more
          ∙ ap (in_memory m) (fed-some m from from 16 (16 * suc left) next (16 + 16 * n) some)
          ∙ ap (λ (e : List ℕ). in_memory m (fed (next e) (drop 16 (bytes_from m from (16 + 16 * n))))) (take-bytes_from m from 16 (16 * n))
          ∙ ap (λ (bytes : List ℕ). in_memory m (fed (next d) bytes)) (drop-bytes_from m from 16 (16 * n))
          ∙ keeps.same;
    }

-- a parse that keeps pieces, too
KeepsEnd-list : (m : ℕ → ℕ) (n : Naming) (addr len : ℕ) → IsPart n.ahead.left n.ahead.from addr len
    → KeepsEnd m (unless_faulty n.fault (read_array (mapped n.regions) n.dest n.budget n.ahead.left n.ahead.from n.ahead.by_last n.pieces)) (bytes_from m addr len)
KeepsEnd-list m n addr len part =
    let list : Dialogue Reading = unless_faulty n.fault (read_array (mapped n.regions) n.dest n.budget n.ahead.left n.ahead.from n.ahead.by_last n.pieces) in
    let P : ℕ → Type 0 = λ a. KeepsEnd m list (bytes_from m a len) in
    let Q : ℕ → Type 0 = λ k. KeepsEnd m list (bytes_from m n.ahead.from k) in
    subst
    P (sym part.start)
    (subst
    Q (sym part.size)
    (KeepsEnd-fault
    m n.fault _ _
    (λ none.
    KeepsEnd-array
    m (mapped n.regions) n.dest part.count n.budget n.ahead.left n.ahead.from n.ahead.by_last n.pieces part.within)))

-- feeding a parse that keeps pieces what a memory shows at what it wants leaves its end in this memory as it is
pub in_memory-fed_naming : (m : ℕ → ℕ) (n : Naming) (addr len : ℕ) → want_of (reading_of n) ≡ want.Read addr len
    → in_memory m (fed (reading_of n) (bytes_from m addr len)) ≡ in_memory m (reading_of n)
unfolding reading_of
in_memory-fed_naming m n addr len wanted =
    let list : Dialogue Reading = unless_faulty n.fault (read_array (mapped n.regions) n.dest n.budget n.ahead.left n.ahead.from n.ahead.by_last n.pieces) in
    ap (in_memory m) (fed-and_then list (sized n.need) (bytes_from m addr len))
    ∙ in_memory-end m (fed list (bytes_from m addr len)) (sized n.need)
    ∙ ap (sized n.need) (KeepsEnd-list m n addr len (want_of-part_of n addr len wanted)).same
    ∙ sym (in_memory-end m list (sized n.need))

-- and so does feeding a parse
pub in_memory-fed : (m : ℕ → ℕ) (p : Parse) (addr len : ℕ) → want_of (dialogue_of p) ≡ want.Read addr len
    → in_memory m (fed (dialogue_of p) (bytes_from m addr len)) ≡ in_memory m (dialogue_of p)
in_memory-fed m p addr len wanted =
    let P : Dialogue Reading → Type 0 = λ d. in_memory m (fed d (bytes_from m addr len)) ≡ in_memory m d in
    subst P (sym (dialogue_of-naming p)) (in_memory-fed_naming m (naming_of p) addr len (ap want_of (sym (dialogue_of-naming p)) ∙ wanted))
