-- Lemmas on what a parse wants and how it goes on.
use Rattle.std.proofs.Common.{◌≡◌, ◌≢◌, ℕ, zero, suc, ◌-◌, ◌*◌, ◌%◌, ◌<◌, ◌≤◌}
use Rattle.std.proofs.Common.{min, Bool, true, false, ◌==◌, List, [], ◌∷◌, Option, Some, None, arith, refl}
use Rattle.std.proofs.Common.{sym, ◌∙◌, ap, subst, append-nil, if◌then◌else◌, eq-eqb}
use Rattle.std.proofs.lemmas.Bool.Decides.{nat_tests}
use Rattle.nv_entry.specs.Descriptor.{kind_of}
use Rattle.nv_entry.specs.StatusCode.{refused_with}
use Rattle.nv_entry.specs.declared.status_code.StatusCode.{StatusCode}
use Rattle.nv_entry.specs.declared.status_code.StatusCode.TheVariants.{SglLengthInvalid}
use Rattle.nv_mem.specs.GuestMap.{mapped}
use Rattle.nv_mem.specs.Places.{total_len}
use Rattle.nv_mem.specs.declared.piece.Piece.{Piece}
use Rattle.nv_mem.specs.declared.region.Region.{Region}
use Rattle.nv_model.specs.Dialogue.{Dialogue, End, and_then}
use Rattle.nv_model.specs.Judge.{sized}
use Rattle.nv_model.specs.Reading.{Reading, Faulty, Spells, unless_faulty}
use Rattle.nv_model.specs.Sgl.{behind_own, pieces_by, read_array, read_descriptor, read_sgl}
use Rattle.nv_model.specs.Transcript.{part}
use Rattle.nv_sgl.specs.Chain.{grown, pieces_in, pieces_of}
use Rattle.nv_sgl.specs.Cursor.{reading_from, ExtendsChain, naming_at, parse_at, IsNaming, IsParse, NamesPart, StandsBehind}
use Rattle.nv_model.specs.Transcript.{fed, units_fed}
use Rattle.nv_sgl.specs.Parse.{Naming, Parse, dialogue_of, list_ahead, reading_of}
use Rattle.nv_model.specs.Want.{want_of}
use Rattle.nv_sgl.specs.declared.cursor.Cursor.{Cursor}
use Rattle.nv_model.specs.declared.want.Want.TheVariants as want
use Rattle.nv_model.proofs.Feedings.{fed-and_then, taken-and_then}
use Rattle.nv_sgl.proofs.Parts.{reading_from-behind}

-- ---- what is wanted

-- a parse reads on as one that keeps the pieces of its chain alone
abbrev pub naming_of : Parse → Naming
naming_of p =
    record { regions = p.regions; dest = p.dest; need = p.need; budget = p.budget; ahead = p.ahead; fault = p.fault; pieces = pieces_in p.dest p.chain }

pub dialogue_of-naming : (p : Parse) → dialogue_of p ≡ reading_of (naming_of p)
unfolding dialogue_of list_ahead reading_of
dialogue_of-naming p = refl

-- a faulty descriptor was read
pub want_of-fault : (n : Naming) (code : StatusCode) → n.fault ≡ Some code
    → want_of (reading_of n) ≡ want.Fault (refused_with code)
unfolding reading_of and_then
want_of-fault n code fault = rw fault refl

-- nothing is left of the last array
reading_of-end : (n : Naming) → n.fault ≡ None → n.ahead.left ≡ 0
    → reading_of n ≡ End (sized n.need (Spells n.pieces))
unfolding reading_of and_then read_array
reading_of-end n fault left = rw (fault, left) refl

-- two numbers that differ
unlike : (m n : ℕ) → m ≢ n → (m == n) ≡ false
unlike m n differ = grind (arith, nat_tests)

-- and it spells the transfer
pub reading_of-done : (n : Naming) → n.fault ≡ None → n.ahead.left ≡ 0 → total_len n.pieces ≡ n.need
    → reading_of n ≡ End (Spells n.pieces)
reading_of-done n fault left total =
    reading_of-end n fault left
    ∙ ap (λ (b : Bool). End (if b then Spells n.pieces else Faulty SglLengthInvalid)) (eq-eqb (total_len n.pieces) n.need total)

-- or another number of bytes
pub reading_of-sized : (n : Naming) → n.fault ≡ None → n.ahead.left ≡ 0 → total_len n.pieces ≢ n.need
    → reading_of n ≡ End (Faulty SglLengthInvalid)
reading_of-sized n fault left total =
    reading_of-end n fault left
    ∙ ap (λ (b : Bool). End (if b then Spells n.pieces else Faulty SglLengthInvalid)) (unlike (total_len n.pieces) n.need total)

-- no more may be read
pub want_of-too_long : (n : Naming) → n.fault ≡ None → n.ahead.left ≢ 0 → n.budget ≡ 0
    → want_of (reading_of n) ≡ want.TooLong
unfolding reading_of and_then read_array
want_of-too_long n fault left budget =
    let some : n.ahead.left ≡ suc (n.ahead.left - 1) = omega arith in
    rw (fault, some, budget) refl

-- the next part of the array
pub want_of-part : (n : Naming) → n.fault ≡ None → n.ahead.left ≢ 0 → n.budget ≢ 0
    → want_of (reading_of n) ≡ want.Read n.ahead.from (part (16 * n.ahead.left))
unfolding reading_of and_then read_array
want_of-part n fault left budget =
    let some : n.ahead.left ≡ suc (n.ahead.left - 1) = omega arith in
    let more : n.budget ≡ suc (n.budget - 1) = omega arith in
    rw (fault, some, more) refl

-- ---- what a want says

-- a part of what is left of an array: some of its descriptors, from the next one on
pub record IsPart (left from addr len : ℕ) : Type 0 where
  pub count : ℕ
  pub within : count ≤ left
  pub size : len ≡ 16 * count
  pub start : addr ≡ from

-- a part is that
part-whole : (left from addr len : ℕ) → part (16 * left) ≡ len → from ≡ addr → IsPart left from addr len
part-whole left from addr len is at =
    record { count = min left 256; within = omega arith; size = omega arith; start = sym at }

-- descriptors of the array are wanted
wanted_by : (mapped : ℕ → Bool) (dest : Bool) (fault : Option StatusCode) (budget left from : ℕ) (by_last : Bool) (pieces : List Piece) (need addr len : ℕ)
    → want_of (and_then (unless_faulty fault (read_array mapped dest budget left from by_last pieces)) (λ reading. End (sized need reading))) ≡ want.Read addr len
    → IsPart left from addr len
unfolding and_then read_array
wanted_by mapped dest (Some code) budget left from by_last pieces need addr len wanted = absurd (cc)
wanted_by mapped dest None budget zero from by_last pieces need addr len wanted =
    absurd ((elim (total_len pieces == need) as (λ b. want_of (End (if b then Spells pieces else Faulty SglLengthInvalid)) ≡ want.Read addr len → ⊥)
    [ true ↦ λ e. cc | false ↦ λ e. cc ]) wanted)
wanted_by mapped dest None zero (suc left) from by_last pieces need addr len wanted = absurd (cc)
wanted_by mapped dest None (suc budget) (suc left) from by_last pieces need addr len wanted =
    let is : part (16 * suc left) ≡ len = cc in
    let at : from ≡ addr = cc in
    part-whole (suc left) from addr len is at

pub want_of-part_of : (n : Naming) (addr len : ℕ) → want_of (reading_of n) ≡ want.Read addr len
    → IsPart n.ahead.left n.ahead.from addr len
unfolding reading_of
want_of-part_of n addr len wanted =
    wanted_by (mapped n.regions) n.dest n.fault n.budget n.ahead.left n.ahead.from n.ahead.by_last n.pieces n.need addr len wanted

-- so whole descriptors are wanted
pub want_of-whole : (n : Naming) (addr len : ℕ) → want_of (reading_of n) ≡ want.Read addr len → len % 16 ≡ 0
want_of-whole n addr len wanted = let is = (want_of-part_of n addr len wanted).size in omega arith

-- what is done has spelt
done_by : (mapped : ℕ → Bool) (dest : Bool) (fault : Option StatusCode) (budget left from : ℕ) (by_last : Bool) (pieces : List Piece) (need : ℕ)
    → want_of (and_then (unless_faulty fault (read_array mapped dest budget left from by_last pieces)) (λ reading. End (sized need reading))) ≡ want.Done
    → and_then (unless_faulty fault (read_array mapped dest budget left from by_last pieces)) (λ reading. End (sized need reading)) ≡ End (Spells pieces)
unfolding and_then read_array
done_by mapped dest (Some code) budget left from by_last pieces need done = absurd (cc)
done_by mapped dest None budget zero from by_last pieces need done =
    (elim (total_len pieces == need) as (λ b. want_of (End (if b then Spells pieces else Faulty SglLengthInvalid)) ≡ want.Done
    → End (if b then Spells pieces else Faulty SglLengthInvalid) ≡ End (Spells pieces))
    [ true ↦ λ e. refl | false ↦ λ e. absurd (cc) ]) done
done_by mapped dest None zero (suc left) from by_last pieces need done = absurd (cc)
done_by mapped dest None (suc budget) (suc left) from by_last pieces need done = absurd (cc)

-- a parse that is done spells its pieces
pub want_of-done : (n : Naming) → want_of (reading_of n) ≡ want.Done → reading_of n ≡ End (Spells n.pieces)
unfolding reading_of
want_of-done n done =
    done_by (mapped n.regions) n.dest n.fault n.budget n.ahead.left n.ahead.from n.ahead.by_last n.pieces n.need done

-- and one with a chain the pieces of that
pub want_of-spells : (p : Parse) → want_of (dialogue_of p) ≡ want.Done → dialogue_of p ≡ End (Spells (pieces_in p.dest p.chain))
want_of-spells p done =
    dialogue_of-naming p ∙ want_of-done (naming_of p) (ap want_of (sym (dialogue_of-naming p)) ∙ done)

-- ---- how a parse begins and goes on

-- the pieces of the command's own descriptor
pieces_in-own : (dest : Bool) (d : List ℕ) → pieces_in dest ((d ∷ []) ∷ []) ≡ pieces_by (kind_of d) dest d
unfolding pieces_in pieces_of
pieces_in-own dest d = append-nil (pieces_by (kind_of d) dest d)

-- and their bytes
pub total_len-own : (dest : Bool) (d : List ℕ) (chain : List (List (List ℕ))) → chain ≡ (d ∷ []) ∷ []
    → total_len (pieces_in dest chain) ≡ total_len (pieces_by (kind_of d) dest d)
total_len-own dest d chain own =
    ap (λ (c : List (List (List ℕ))). total_len (pieces_in dest c)) own ∙ ap total_len (pieces_in-own dest d)

-- before the own descriptor
abbrev pub at_own : ℕ → Cursor
at_own limit = record { from = 0; left = 0; by_last = false; budget = limit - 1; total = 0; fault = None }

read_sgl-own : (mapped : ℕ → Bool) (dest : Bool) (limit : ℕ) (first : List ℕ) → 0 < limit
    → read_descriptor mapped dest behind_own [] (λ a ps. read_array mapped dest (limit - 1) a.left a.from a.by_last ps) first ≡ read_sgl mapped dest limit first
unfolding read_sgl
read_sgl-own mapped dest zero first some = absurd (omega arith)
read_sgl-own mapped dest (suc budget) first some =
    let less : suc budget - 1 ≡ budget = omega arith in
    ap (λ (n : ℕ). read_descriptor mapped dest behind_own [] (λ a ps. read_array mapped dest n a.left a.from a.by_last ps) first) less

-- from behind the own descriptor the list is read
reading_from-own : (mapped : ℕ → Bool) (dest : Bool) (limit : ℕ) (first : List ℕ) (start to : Cursor) (pieces : List Piece)
    → 0 < limit → start ≡ at_own limit → StandsBehind mapped dest start first to → pieces ≡ pieces_by (kind_of first) dest first
    → reading_from mapped dest to pieces ≡ read_sgl mapped dest limit first
reading_from-own mapped dest limit first start to pieces some is_own behind own =
    let P : Cursor → Type 0 = λ c. StandsBehind mapped dest c first to in
    ap (λ (ps : List Piece). reading_from mapped dest to ps) own
    ∙ reading_from-behind mapped dest (at_own limit) first to [] (subst P is_own behind)
    ∙ read_sgl-own mapped dest limit first some

-- a parse of the own descriptor that keeps pieces reads the list
pub reading_of-own : (regions : List Region) (dest : Bool) (need limit : ℕ) (first : List ℕ) (start to : Cursor) (pieces : List Piece)
    → 0 < limit → start ≡ at_own limit → StandsBehind (mapped regions) dest start first to → pieces ≡ pieces_by (kind_of first) dest first
    → reading_of (naming_at regions dest need to pieces) ≡ and_then (read_sgl (mapped regions) dest limit first) (λ reading. End (sized need reading))
unfolding reading_of reading_from
reading_of-own regions dest need limit first start to pieces some is_own behind own =
    ap (λ (d : Dialogue Reading). and_then d (λ reading. End (sized need reading)))
    (reading_from-own (mapped regions) dest limit first start to pieces some is_own behind own)

-- and goes on as its dialogue, where it is fed
pub reading_of-fed : (regions : List Region) (dest : Bool) (need : ℕ) (from to : Cursor) (bytes : List ℕ) (old new : List Piece)
    → NamesPart (mapped regions) dest from bytes old to new
    → reading_of (naming_at regions dest need to new) ≡ fed (reading_of (naming_at regions dest need from old)) bytes
unfolding reading_of reading_from
reading_of-fed regions dest need from to bytes old new names =
    ap (λ (d : Dialogue Reading). and_then d (λ reading. End (sized need reading))) names.dialogue
    ∙ sym (fed-and_then (reading_from (mapped regions) dest from old) (sized need) bytes)

-- its total stays that of its pieces
pub IsNaming-fed : (mapped : ℕ → Bool) (dest : Bool) (from to : Cursor) (bytes : List ℕ) (old new : List Piece)
    → IsNaming from old → NamesPart mapped dest from bytes old to new → IsNaming to new
IsNaming-fed mapped dest from to bytes old new naming names =
    record { in_range = names.in_range; total = let was = naming.total in let more = names.total in omega arith }

-- a parse of the own descriptor reads the list
pub dialogue_of-own : (regions : List Region) (dest : Bool) (need limit : ℕ) (first : List ℕ) (start to : Cursor) (chain : List (List (List ℕ)))
    → 0 < limit → start ≡ at_own limit → StandsBehind (mapped regions) dest start first to → chain ≡ (first ∷ []) ∷ []
    → dialogue_of (parse_at regions dest need to chain) ≡ and_then (read_sgl (mapped regions) dest limit first) (λ reading. End (sized need reading))
unfolding dialogue_of list_ahead reading_from
dialogue_of-own regions dest need limit first start to chain some is_own behind own =
    ap (λ (d : Dialogue Reading). and_then d (λ reading. End (sized need reading)))
    (reading_from-own (mapped regions) dest limit first start to (pieces_in dest chain) some is_own behind (ap (pieces_in dest) own ∙ pieces_in-own dest first))

-- a parse that is fed goes on as its dialogue
pub dialogue_of-fed : (regions : List Region) (dest : Bool) (need : ℕ) (from to : Cursor) (bytes : List ℕ) (old new : List (List (List ℕ)))
    → ExtendsChain (mapped regions) dest from bytes old to new
    → dialogue_of (parse_at regions dest need to new) ≡ fed (dialogue_of (parse_at regions dest need from old)) bytes
unfolding dialogue_of list_ahead reading_from
dialogue_of-fed regions dest need from to bytes old new extends =
    ap (λ (d : Dialogue Reading). and_then d (λ reading. End (sized need reading))) extends.dialogue
    ∙ sym (fed-and_then (reading_from (mapped regions) dest from (pieces_in dest old)) (sized need) bytes)

-- and keeps the descriptors that its dialogue takes
pub grown-fed : (regions : List Region) (dest : Bool) (need : ℕ) (from to : Cursor) (bytes : List ℕ) (old new : List (List (List ℕ)))
    → ExtendsChain (mapped regions) dest from bytes old to new
    → new ≡ grown old (units_fed (dialogue_of (parse_at regions dest need from old)) bytes)
unfolding dialogue_of list_ahead reading_from
grown-fed regions dest need from to bytes old new extends =
    extends.chain
    ∙ ap (grown old) (sym (taken-and_then (reading_from (mapped regions) dest from (pieces_in dest old)) (sized need) bytes))

-- the total stays that of the chain
pub IsParse-fed : (mapped : ℕ → Bool) (dest : Bool) (from to : Cursor) (bytes : List ℕ) (old new : List (List (List ℕ)))
    → IsParse dest from old → ExtendsChain mapped dest from bytes old to new → IsParse dest to new
IsParse-fed mapped dest from to bytes old new parse extends =
    record { in_range = extends.in_range; total = let was = parse.total in let more = extends.total in omega arith }
