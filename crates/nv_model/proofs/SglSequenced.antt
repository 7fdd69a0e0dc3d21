-- A scatter gather list is read as one sequence of descriptors.
use Rattle.std.proofs.Common.{◌≡◌, ℕ, zero, suc, ◌-◌, ◌/◌, ◌%◌, ◌<◌, ◌≤◌, Bool, true}
use Rattle.std.proofs.Common.{false, cond, not, ◌||◌, ◌==◌, nat_lt, List, [], ◌∷◌, ◌++◌, All, Option}
use Rattle.std.proofs.Common.{Some, None, is_some, length, slice_get, take, arith, refl, sym, ap, ◌∙◌, eqb-true, append_assoc, append-nil}
use Rattle.std.specs.List.{flat_map}
use Rattle.std.proofs.lemmas.Bool.Decides.{nat_tests}
use Rattle.std.proofs.lemmas.List.Elements.{All-head, All-tail}
use Rattle.nv_entry.specs.Descriptor.{address_of, length_of, kind_of}
use Rattle.nv_entry.specs.declared.descriptor_type.DescriptorType.{DescriptorType}
use Rattle.nv_entry.specs.declared.descriptor_type.DescriptorType.TheVariants.{DataBlock, BitBucket, Segment, LastSegment}
use Rattle.nv_entry.specs.declared.status_code.StatusCode.{StatusCode}
use Rattle.nv_entry.specs.declared.status_code.StatusCode.TheVariants.{DataTransferError, InvalidSglCount, InvalidSglSegment}
use Rattle.nv_mem.specs.GuestMap.{everywhere}
use Rattle.nv_mem.specs.declared.piece.Piece.{Piece}
use Rattle.nv_model.specs.Dialogue.{Dialogue, in_memory}
use Rattle.nv_model.specs.Reading.{Reading, Faulty, TooLong, Spells, unless_faulty}
use Rattle.nv_model.specs.Sgl.{Array, array_by, behind_own, fault_by, read_array, read_descriptor, read_sgl, segment_fault}
use Rattle.nv_model.specs.SglSequence.{IsFaultless, Member, fault_of, first_members, member_at, member_behind, member_pieces, members_from, named_by}
use Rattle.nv_model.proofs.Endings.{first_failing-none, not-false}

-- ---- the reading of a sequence

-- a fault ends it
abbrev pub unless : Option StatusCode → Reading → Reading
unless (Some code) more = Faulty code
unless None more = more

-- descriptors in a row, of which at most `budget` may be read
abbrev reading_of : (ℕ → Bool) → Bool → (budget : ℕ) → List Member → List Piece → Reading
reading_of mapped dest budget [] pieces = Spells pieces
reading_of mapped dest zero (m ∷ ms) pieces = TooLong
reading_of mapped dest (suc budget) (m ∷ ms) pieces =
    unless (fault_of mapped m) (reading_of mapped dest budget ms (pieces ++ member_pieces dest m))

-- the first of what is left of an array
abbrev ahead : (ℕ → ℕ) → (left from : ℕ) → Bool → Option Member
ahead memory zero from by_last = None
ahead memory (suc left) from by_last = Some (member_at memory from left by_last)

-- ---- what follows a descriptor

-- a faultless segment stands last, and names at least one descriptor
pub record Names (rest : Array) (d : List ℕ) : Type 0 where
  pub last : rest.left ≡ 0
  pub some : 0 < length_of d / 16

pub segment_fault-names : (mapped : ℕ → Bool) (rest : Array) (d : List ℕ) → segment_fault mapped rest d ≡ None
    → Names rest d
segment_fault-names mapped rest d fine =
    let five : List (Bool × StatusCode) = (not (everywhere mapped (address_of d) (length_of d)), DataTransferError) ∷ [] in
    let four : List (Bool × StatusCode) = (not (address_of d % 8 == 0), InvalidSglSegment) ∷ five in
    let three : List (Bool × StatusCode) = (length_of d == 0 || not (length_of d % 16 == 0), InvalidSglSegment) ∷ four in
    let two : List (Bool × StatusCode) = (not (rest.left == 0), InvalidSglCount) ∷ three in
    let behind_one = (first_failing-none rest.by_last InvalidSglSegment two fine).1 in
    let at_two = first_failing-none (not (rest.left == 0)) InvalidSglCount three behind_one in
    let at_three = first_failing-none (length_of d == 0 || not (length_of d % 16 == 0)) InvalidSglSegment four at_two.1 in
    record { last = eqb-true rest.left 0 (not-false _ at_two.0); some = whole (length_of d) at_three.0 }
  where
    whole : (n : ℕ) → (n == 0 || not (n % 16 == 0)) ≡ false → 0 < n / 16
    whole n is = grind (arith, nat_tests)

-- of an array in which some are left, one is ahead
ahead-some : (memory : ℕ → ℕ) (left from : ℕ) (by_last : Bool) → 0 < left
    → Some (member_at memory from (left - 1) by_last) ≡ ahead memory left from by_last
ahead-some memory zero from by_last some = absurd (omega arith)
ahead-some memory (suc left) from by_last some = ap (λ (n : ℕ). Some (member_at memory from n by_last)) (omega arith)

-- what is left of an array is ahead
ahead-left : (memory : ℕ → ℕ) (left from : ℕ) (by_last : Bool)
    → cond (nat_lt 0 left) (Some (member_at memory from (left - 1) by_last)) None ≡ ahead memory left from by_last
ahead-left memory zero from by_last = refl
ahead-left memory (suc left) from by_last =
    let some : nat_lt 0 (suc left) ≡ true = grind (arith, nat_tests) in
    rw some (ahead-some memory (suc left) from by_last (omega arith))

-- no fault is no end
faultless-goes : (fault : Option StatusCode) (left : ℕ) (x y : Option Member) → fault ≡ None
    → cond (nat_lt 0 left) x (cond (is_some fault) None y) ≡ cond (nat_lt 0 left) x y
faultless-goes (Some code) left x y fine = cc
faultless-goes None left x y fine = refl

-- behind the last
last-goes : (left : ℕ) (x y : Option Member) → left ≡ 0 → cond (nat_lt 0 left) x y ≡ y
last-goes left x y last = rw last refl

-- behind a faultless descriptor the sequence goes on with what is read there
behind-ahead : (mapped : ℕ → Bool) (memory : ℕ → ℕ) (kind : Option DescriptorType) (rest : Array) (d : List ℕ)
    → fault_by kind mapped rest d ≡ None
    → cond (nat_lt 0 rest.left) (Some (member_at memory rest.from (rest.left - 1) rest.by_last)) (named_by kind memory d)
    ≡ ahead memory (array_by kind rest d).left (array_by kind rest d).from (array_by kind rest d).by_last
behind-ahead mapped memory None rest d fine = ahead-left memory rest.left rest.from rest.by_last
behind-ahead mapped memory (Some DataBlock) rest d fine = ahead-left memory rest.left rest.from rest.by_last
behind-ahead mapped memory (Some BitBucket) rest d fine = ahead-left memory rest.left rest.from rest.by_last
behind-ahead mapped memory (Some Segment) rest d fine =
    let names = segment_fault-names mapped rest d fine in
    last-goes rest.left _ _ names.last ∙ ahead-some memory (length_of d / 16) (address_of d) false names.some
behind-ahead mapped memory (Some LastSegment) rest d fine =
    let names = segment_fault-names mapped rest d fine in
    last-goes rest.left _ _ names.last ∙ ahead-some memory (length_of d / 16) (address_of d) true names.some

member_behind-ahead : (mapped : ℕ → Bool) (memory : ℕ → ℕ) (m : Member) → fault_of mapped m ≡ None
    → let a : Array = array_by (kind_of m.descriptor) m.rest m.descriptor in member_behind mapped memory m ≡ ahead memory a.left a.from a.by_last
member_behind-ahead mapped memory m fine =
    faultless-goes (fault_of mapped m) m.rest.left _ (named_by (kind_of m.descriptor) memory m.descriptor) fine
    ∙ behind-ahead mapped memory (kind_of m.descriptor) m.rest m.descriptor fine

-- ---- lists

-- a descriptor with what follows it
read_descriptor-sequence : (mapped : ℕ → Bool) (dest : Bool) (memory : ℕ → ℕ) (budget : ℕ) (m : Member) (pieces : List Piece) (follow : Array → List Piece → Dialogue Reading)
    → ((a : Array) (ps : List Piece) → in_memory memory (follow a ps) ≡ reading_of mapped dest budget (members_from mapped memory (suc budget) (ahead memory a.left a.from a.by_last)) ps)
    → in_memory memory (read_descriptor mapped dest m.rest pieces follow m.descriptor)
    ≡ reading_of mapped dest (suc budget) (m ∷ members_from mapped memory (suc budget) (member_behind mapped memory m)) pieces
unfolding in_memory
read_descriptor-sequence mapped dest memory budget m pieces follow goes =
    let a : Array = array_by (kind_of m.descriptor) m.rest m.descriptor in
    let ps = pieces ++ member_pieces dest m in
    (elim (fault_of mapped m) as (λ o. fault_of mapped m ≡ o → in_memory memory (unless_faulty o (follow a ps))
    ≡ unless o (reading_of mapped dest budget (members_from mapped memory (suc budget) (member_behind mapped memory m)) ps)) [
      | Some code ↦ λ is. refl
      | None ↦ λ is. goes a ps ∙ ap (λ (o : Option Member). reading_of mapped dest budget (members_from mapped memory (suc budget) o) ps) (sym (member_behind-ahead mapped memory m is))
    ]) refl

-- what is left of an array
read_array-sequence : (mapped : ℕ → Bool) (dest : Bool) (memory : ℕ → ℕ) (budget left from : ℕ) (by_last : Bool) (pieces : List Piece)
    → in_memory memory (read_array mapped dest budget left from by_last pieces)
    ≡ reading_of mapped dest budget (members_from mapped memory (suc budget) (ahead memory left from by_last)) pieces
unfolding in_memory read_array members_from
read_array-sequence mapped dest memory budget zero from by_last pieces = refl
read_array-sequence mapped dest memory zero (suc left) from by_last pieces = refl
read_array-sequence mapped dest memory (suc budget) (suc left) from by_last pieces =
    read_descriptor-sequence mapped dest memory budget (member_at memory from left by_last) pieces
    (λ a ps. read_array mapped dest budget a.left a.from a.by_last ps)
    (λ a ps. read_array-sequence mapped dest memory budget a.left a.from a.by_last ps)

-- the list of a command's own descriptor
read_sgl-sequence : (mapped : ℕ → Bool) (dest : Bool) (memory : ℕ → ℕ) (limit : ℕ) (own : List ℕ)
    → in_memory memory (read_sgl mapped dest limit own) ≡ reading_of mapped dest limit (first_members mapped memory own (suc limit)) []
unfolding in_memory read_sgl members_from
read_sgl-sequence mapped dest memory zero own = refl
read_sgl-sequence mapped dest memory (suc budget) own =
    read_descriptor-sequence mapped dest memory budget (record { descriptor = own; rest = behind_own }) []
    (λ a ps. read_array mapped dest budget a.left a.from a.by_last ps)
    (λ a ps. read_array-sequence mapped dest memory budget a.left a.from a.by_last ps)

-- ---- what decides

-- the first fault
reading_of-faulty : (mapped : ℕ → Bool) (dest : Bool) (memory : ℕ → ℕ) (n : ℕ) (o : Option Member) (pieces : List Piece) (i : ℕ) (m : Member) (code : StatusCode)
    → slice_get (members_from mapped memory n o) i ≡ Some m → fault_of mapped m ≡ Some code
    → All (IsFaultless mapped) (take i (members_from mapped memory n o))
    → reading_of mapped dest n (members_from mapped memory (suc n) o) pieces ≡ Faulty code
unfolding members_from
reading_of-faulty mapped dest memory zero o pieces i m code at is before = cc
reading_of-faulty mapped dest memory (suc n) None pieces i m code at is before = cc
reading_of-faulty mapped dest memory (suc n) (Some first) pieces zero m code at is before =
    let same : first ≡ m = cc in
    let fails : fault_of mapped first ≡ Some code = ap (fault_of mapped) same ∙ is in
    ap (λ (c : Option StatusCode). unless c (reading_of mapped dest n (members_from mapped memory (suc n) (member_behind mapped memory first)) (pieces ++ member_pieces dest first))) fails
reading_of-faulty mapped dest memory (suc n) (Some first) pieces (suc i) m code at is before =
    let fine = All-head (IsFaultless mapped) first _ before in
    ap (λ (c : Option StatusCode). unless c (reading_of mapped dest n (members_from mapped memory (suc n) (member_behind mapped memory first)) (pieces ++ member_pieces dest first))) fine
    ∙ reading_of-faulty mapped dest memory n (member_behind mapped memory first) (pieces ++ member_pieces dest first) i m code at is (All-tail (IsFaultless mapped) first _ before)

-- one more than may be read
reading_of-too_long : (mapped : ℕ → Bool) (dest : Bool) (memory : ℕ → ℕ) (n : ℕ) (o : Option Member) (pieces : List Piece)
    → All (IsFaultless mapped) (members_from mapped memory n o) → length (members_from mapped memory (suc n) o) ≡ suc n
    → reading_of mapped dest n (members_from mapped memory (suc n) o) pieces ≡ TooLong
unfolding members_from
reading_of-too_long mapped dest memory n None pieces each many = absurd (omega arith)
reading_of-too_long mapped dest memory zero (Some first) pieces each many = refl
reading_of-too_long mapped dest memory (suc n) (Some first) pieces each many =
    let fine = All-head (IsFaultless mapped) first _ each in
    ap (λ (c : Option StatusCode). unless c (reading_of mapped dest n (members_from mapped memory (suc n) (member_behind mapped memory first)) (pieces ++ member_pieces dest first))) fine
    ∙ reading_of-too_long mapped dest memory n (member_behind mapped memory first) (pieces ++ member_pieces dest first) (All-tail (IsFaultless mapped) first _ each) (omega arith)

-- no more than may be read
reading_of-spells : (mapped : ℕ → Bool) (dest : Bool) (memory : ℕ → ℕ) (n : ℕ) (o : Option Member) (pieces : List Piece)
    → All (IsFaultless mapped) (members_from mapped memory n o) → length (members_from mapped memory (suc n) o) ≤ n
    → reading_of mapped dest n (members_from mapped memory (suc n) o) pieces ≡ Spells (pieces ++ flat_map (member_pieces dest) (members_from mapped memory n o))
unfolding members_from
reading_of-spells mapped dest memory zero None pieces each many = ap Spells (sym (append-nil pieces))
reading_of-spells mapped dest memory (suc n) None pieces each many = ap Spells (sym (append-nil pieces))
reading_of-spells mapped dest memory zero (Some first) pieces each many = absurd (omega arith)
reading_of-spells mapped dest memory (suc n) (Some first) pieces each many =
    let fine = All-head (IsFaultless mapped) first _ each in
    ap (λ (c : Option StatusCode). unless c (reading_of mapped dest n (members_from mapped memory (suc n) (member_behind mapped memory first)) (pieces ++ member_pieces dest first))) fine
    ∙ reading_of-spells mapped dest memory n (member_behind mapped memory first) (pieces ++ member_pieces dest first) (All-tail (IsFaultless mapped) first _ each) (omega arith)
    ∙ ap Spells (append_assoc pieces (member_pieces dest first) _)

-- ---- the laws

pub read_sgl-faulty : (mapped : ℕ → Bool) (dest : Bool) (limit : ℕ) (own : List ℕ) (memory : ℕ → ℕ) (i : ℕ) (m : Member) (code : StatusCode)
    → slice_get (first_members mapped memory own limit) i ≡ Some m → fault_of mapped m ≡ Some code
    → All (IsFaultless mapped) (take i (first_members mapped memory own limit))
    → in_memory memory (read_sgl mapped dest limit own) ≡ Faulty code
read_sgl-faulty mapped dest limit own memory i m code at is before =
    read_sgl-sequence mapped dest memory limit own
    ∙ reading_of-faulty mapped dest memory limit (Some (record { descriptor = own; rest = behind_own })) [] i m code at is before

pub read_sgl-too_long : (mapped : ℕ → Bool) (dest : Bool) (limit : ℕ) (own : List ℕ) (memory : ℕ → ℕ)
    → All (IsFaultless mapped) (first_members mapped memory own limit)
    → length (first_members mapped memory own (suc limit)) ≡ suc limit
    → in_memory memory (read_sgl mapped dest limit own) ≡ TooLong
read_sgl-too_long mapped dest limit own memory each many =
    read_sgl-sequence mapped dest memory limit own
    ∙ reading_of-too_long mapped dest memory limit (Some (record { descriptor = own; rest = behind_own })) [] each many

pub read_sgl-spells : (mapped : ℕ → Bool) (dest : Bool) (limit : ℕ) (own : List ℕ) (memory : ℕ → ℕ)
    → All (IsFaultless mapped) (first_members mapped memory own limit)
    → length (first_members mapped memory own (suc limit)) ≤ limit
    → in_memory memory (read_sgl mapped dest limit own) ≡ Spells (flat_map (member_pieces dest) (first_members mapped memory own limit))
read_sgl-spells mapped dest limit own memory each many =
    read_sgl-sequence mapped dest memory limit own
    ∙ reading_of-spells mapped dest memory limit (Some (record { descriptor = own; rest = behind_own })) [] each many
