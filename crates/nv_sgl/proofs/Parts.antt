-- Lemmas on the reading of a part of an array.
use Rattle.std.proofs.Common.{◌≡◌, ℕ, zero, suc, ◌+◌, ◌-◌, ◌*◌, ◌^◌, ◌%◌, ◌<◌, ◌≤◌, Bool, true, false, List, [], ◌∷◌, ◌++◌, length, take, drop, ◌&&◌, nat_lt, Option}
use Rattle.std.proofs.Common.{Some, None, is_none, not, cond, eqb-true, zero-add, ◌==◌, arith, refl, sym, ◌∙◌, ap, ap₂, subst, append_assoc, append-nil}
use Rattle.std.proofs.lemmas.Bool.Decides.{nat_tests}
use Rattle.std.proofs.lemmas.List.{flat_map_more, length-drop}
use Rattle.std.proofs.lemmas.List.Sums.{sum_by-append}
use Rattle.nv_entry.specs.Descriptor.{address_of, kind_of, length_of}
use Rattle.nv_entry.specs.declared.descriptor_type.DescriptorType.{DescriptorType}
use Rattle.nv_entry.specs.declared.descriptor_type.DescriptorType.TheVariants.{DataBlock}
use Rattle.nv_entry.specs.declared.status_code.StatusCode.{StatusCode}
use Rattle.nv_entry.specs.declared.status_code.StatusCode.TheVariants.{DataTransferError}
use Rattle.nv_mem.specs.GuestMap.{everywhere}
use Rattle.nv_mem.specs.Places.{piece_len, total_len}
use Rattle.nv_mem.specs.declared.piece.Piece.{Piece}
use Rattle.nv_mem.specs.declared.piece.Piece.TheVariants.{Run}
use Rattle.nv_model.specs.Dialogue.{Dialogue}
use Rattle.nv_model.specs.Reading.{Reading, first_failing, run, unless_faulty}
use Rattle.nv_model.specs.Sgl.{Array, array_by, fault_by, pieces_by, read_array, read_descriptor}
use Rattle.nv_sgl.specs.Chain.{pieces_of}
use Rattle.nv_sgl.specs.Cursor.{array_at, is_asking, reading_from, IsInRange, NamesPart, ReadsPart, StandsBehind}
use Rattle.nv_model.specs.Transcript.{fed, units_fed}
use Rattle.nv_sgl.specs.declared.cursor.Cursor.{Cursor}
use Rattle.nv_model.proofs.Feedings.{fed-nil, taken-nil}

-- the cursor behind the next descriptor, before it was looked at
abbrev pub past : Cursor → Cursor
past c = record c { from = c.from + 16; left = c.left - 1; budget = c.budget - 1 }

-- two that are faulty alike, and read alike where they aren't
unless_faulty-same : (f g : Option StatusCode) (x y : Dialogue Reading) → f ≡ g → (f ≡ None → x ≡ y)
    → unless_faulty f x ≡ unless_faulty g y
unless_faulty-same (Some code) g x y same alike =
    let P : Option StatusCode → Type 0 = λ h. unless_faulty (Some code) x ≡ unless_faulty h y in subst P same refl
unless_faulty-same None g x y same alike =
    let P : Option StatusCode → Type 0 = λ h. unless_faulty None x ≡ unless_faulty h y in subst P same (alike refl)

-- what is read behind a descriptor
pub reading_from-behind : (mapped : ℕ → Bool) (dest : Bool) (rest : Cursor) (d : List ℕ) (to : Cursor) (before : List Piece)
    → StandsBehind mapped dest rest d to
    → reading_from mapped dest to (before ++ pieces_by (kind_of d) dest d)
    ≡ read_descriptor mapped dest (array_at rest) before (λ a ps. read_array mapped dest rest.budget a.left a.from a.by_last ps) d
unfolding reading_from
reading_from-behind mapped dest rest d to before behind =
    unless_faulty-same to.fault (fault_by (kind_of d) mapped (array_at rest) d) _ _ behind.fault (λ sound.
    ap (λ (a : Array). read_array mapped dest to.budget a.left a.from a.by_last (before ++ pieces_by (kind_of d) dest d)) (behind.array sound)
    ∙ ap (λ (n : ℕ). let a : Array = array_by (kind_of d) (array_at rest) d in read_array mapped dest n a.left a.from a.by_last (before ++ pieces_by (kind_of d) dest d)) behind.budget)

-- an array with descriptors left asks for the next one
read_array-fed : (mapped : ℕ → Bool) (dest : Bool) (budget left from : ℕ) (by_last : Bool) (before : List Piece) (byte : ℕ) (bytes : List ℕ)
    → fed (read_array mapped dest (suc budget) (suc left) from by_last before) (byte ∷ bytes)
    ≡ fed (read_descriptor mapped dest (record { from = from + 16; left = left; by_last = by_last }) before
    (λ a ps. read_array mapped dest budget a.left a.from a.by_last ps) (take 16 (byte ∷ bytes))) (drop 16 (byte ∷ bytes))
unfolding fed read_array
read_array-fed mapped dest budget left from by_last before byte bytes = refl

-- and takes it
read_array-taken : (mapped : ℕ → Bool) (dest : Bool) (budget left from : ℕ) (by_last : Bool) (before : List Piece) (byte : ℕ) (bytes : List ℕ)
    → units_fed (read_array mapped dest (suc budget) (suc left) from by_last before) (byte ∷ bytes)
    ≡ take 16 (byte ∷ bytes)
    ∷ units_fed (read_descriptor mapped dest (record { from = from + 16; left = left; by_last = by_last }) before
    (λ a ps. read_array mapped dest budget a.left a.from a.by_last ps) (take 16 (byte ∷ bytes))) (drop 16 (byte ∷ bytes))
unfolding units_fed read_array
read_array-taken mapped dest budget left from by_last before byte bytes = refl

-- from a cursor that asks, the next descriptor leads to the cursor behind it
reading_from-fed : (mapped : ℕ → Bool) (dest : Bool) (now next : Cursor) (before : List Piece) (byte : ℕ) (bytes : List ℕ)
    → now.fault ≡ None → now.left ≡ suc (now.left - 1) → now.budget ≡ suc (now.budget - 1)
    → StandsBehind mapped dest (past now) (take 16 (byte ∷ bytes)) next
    → fed (reading_from mapped dest now before) (byte ∷ bytes)
    ≡ fed (reading_from mapped dest next (before ++ pieces_by (kind_of (take 16 (byte ∷ bytes))) dest (take 16 (byte ∷ bytes)))) (drop 16 (byte ∷ bytes))
unfolding reading_from
reading_from-fed mapped dest now next before byte bytes sound left budget behind =
    rw (sound, left, budget)
    (read_array-fed mapped dest (now.budget - 1) (now.left - 1) now.from now.by_last before byte bytes
    ∙ ap (λ (d : Dialogue Reading). fed d (drop 16 (byte ∷ bytes))) (sym (reading_from-behind mapped dest (past now) (take 16 (byte ∷ bytes)) next before behind)))

reading_from-taken : (mapped : ℕ → Bool) (dest : Bool) (now next : Cursor) (before : List Piece) (byte : ℕ) (bytes : List ℕ)
    → now.fault ≡ None → now.left ≡ suc (now.left - 1) → now.budget ≡ suc (now.budget - 1)
    → StandsBehind mapped dest (past now) (take 16 (byte ∷ bytes)) next
    → units_fed (reading_from mapped dest now before) (byte ∷ bytes)
    ≡ take 16 (byte ∷ bytes)
    ∷ units_fed (reading_from mapped dest next (before ++ pieces_by (kind_of (take 16 (byte ∷ bytes))) dest (take 16 (byte ∷ bytes))))
    (drop 16 (byte ∷ bytes))
unfolding reading_from
reading_from-taken mapped dest now next before byte bytes sound left budget behind =
    rw (sound, left, budget)
    (read_array-taken mapped dest (now.budget - 1) (now.left - 1) now.from now.by_last before byte bytes
    ∙ ap (λ (d : Dialogue Reading). take 16 (byte ∷ bytes) ∷ units_fed d (drop 16 (byte ∷ bytes)))
    (sym (reading_from-behind mapped dest (past now) (take 16 (byte ∷ bytes)) next before behind)))

-- nothing is asked: it has ended
pub record HasEnded (d : Dialogue Reading) (bytes : List ℕ) : Type 0 where
  pub fed : fed d bytes ≡ d
  pub taken : units_fed d bytes ≡ []

-- these tests hold
not_asking : (left budget : ℕ) → (true && nat_lt 0 (suc left) && nat_lt 0 (suc budget)) ≡ false → ⊥
not_asking left budget is = grind (arith, nat_tests)

-- what a cursor that asks has
record Asks (fault : Option StatusCode) (left budget : ℕ) : Type 0 where
  sound : fault ≡ None
  more : left ≡ suc (left - 1)
  may : budget ≡ suc (budget - 1)

asks_by : (fault : Option StatusCode) (left budget : ℕ) → (is_none fault && nat_lt 0 left && nat_lt 0 budget) ≡ true
    → Asks fault left budget
asks_by (Some code) left budget is = absurd (cc)
asks_by None left budget is = record { sound = refl; more = grind (arith, nat_tests); may = grind (arith, nat_tests) }

ended_by : (mapped : ℕ → Bool) (dest : Bool) (fault : Option StatusCode) (budget left from : ℕ) (by_last : Bool) (before : List Piece) (bytes : List ℕ)
    → (is_none fault && nat_lt 0 left && nat_lt 0 budget) ≡ false
    → HasEnded (unless_faulty fault (read_array mapped dest budget left from by_last before)) bytes
unfolding fed units_fed read_array
ended_by mapped dest (Some code) budget left from by_last before bytes is = record { fed = refl; taken = refl }
ended_by mapped dest None budget zero from by_last before bytes is = record { fed = refl; taken = refl }
ended_by mapped dest None zero (suc left) from by_last before bytes is = record { fed = refl; taken = refl }
ended_by mapped dest None (suc budget) (suc left) from by_last before bytes is = absurd (not_asking left budget is)

pub ended : (mapped : ℕ → Bool) (dest : Bool) (c : Cursor) (before : List Piece) (bytes : List ℕ) → is_asking c ≡ false
    → HasEnded (reading_from mapped dest c before) bytes
unfolding reading_from
ended mapped dest c before bytes is = ended_by mapped dest c.fault c.budget c.left c.from c.by_last before bytes is

-- how far a part was read: what is left of it leads from here to where the whole leads from the start
pub record Progress (mapped : ℕ → Bool) (dest : Bool) (start : Cursor) (bytes : List ℕ) (those : List (List ℕ)) (now : Cursor) (rest : List ℕ) (these : List (List ℕ)) : Type 0 where
  pub dialogue : (before : List Piece)
      → fed (reading_from mapped dest now (before ++ pieces_of dest these)) rest ≡ fed (reading_from mapped dest start (before ++ pieces_of dest those)) bytes
  pub blocks : (before : List Piece)
      → these ++ units_fed (reading_from mapped dest now (before ++ pieces_of dest these)) rest ≡ those ++ units_fed (reading_from mapped dest start (before ++ pieces_of dest those)) bytes
  pub total : now.total + total_len (pieces_of dest those) ≡ start.total + total_len (pieces_of dest these)
  pub in_range : IsInRange now
  pub whole : length rest % 16 ≡ 0

-- before the first descriptor
pub Progress-start : (mapped : ℕ → Bool) (dest : Bool) (start : Cursor) (bytes : List ℕ) (those : List (List ℕ))
    → IsInRange start → length bytes % 16 ≡ 0 → Progress mapped dest start bytes those start bytes those
Progress-start mapped dest start bytes those in_range whole =
    record { dialogue = λ before. refl; blocks = λ before. refl; total = refl; in_range = in_range; whole = whole }

-- the pieces of one more descriptor
pieces_of-more : (dest : Bool) (before : List Piece) (these : List (List ℕ)) (d : List ℕ)
    → before ++ pieces_of dest (these ++ d ∷ []) ≡ (before ++ pieces_of dest these) ++ pieces_by (kind_of d) dest d
unfolding pieces_of
pieces_of-more dest before these d = sym (flat_map_more (λ e. pieces_by (kind_of e) dest e) before these d)

-- one descriptor further
pub Progress-step : (mapped : ℕ → Bool) (dest : Bool) (start : Cursor) (bytes : List ℕ) (those : List (List ℕ)) (now : Cursor) (rest : List ℕ) (these : List (List ℕ)) (next : Cursor)
    → Progress mapped dest start bytes those now rest these → is_asking now ≡ true → 16 ≤ length rest
    → StandsBehind mapped dest (past now) (take 16 rest) next → IsInRange next
    → Progress mapped dest start bytes those next (drop 16 rest) (these ++ take 16 rest ∷ [])
Progress-step mapped dest start bytes those now [] these next progress asking some behind in_range = absurd (omega arith)
Progress-step mapped dest start bytes those now (byte ∷ rest) these next progress asking some behind in_range =
    let d : List ℕ = take 16 (byte ∷ rest) in
    let tail : List ℕ = drop 16 (byte ∷ rest) in
    let asks : Asks now.fault now.left now.budget = asks_by now.fault now.left now.budget asking in
    record {
      dialogue = λ before.
          ap (λ (ps : List Piece). fed (reading_from mapped dest next ps) tail) (pieces_of-more dest before these d)
          ∙ sym (reading_from-fed mapped dest now next (before ++ pieces_of dest these) byte rest asks.sound asks.more asks.may behind)
          ∙ progress.dialogue before;
      blocks = λ before.
          append_assoc these (d ∷ []) (units_fed (reading_from mapped dest next (before ++ pieces_of dest (these ++ d ∷ []))) tail)
          ∙ ap (λ (ps : List Piece). these ++ d ∷ units_fed (reading_from mapped dest next ps) tail) (pieces_of-more dest before these d)
          ∙ ap (λ (ds : List (List ℕ)). these ++ ds) (sym (reading_from-taken mapped dest now next (before ++ pieces_of dest these) byte rest asks.sound asks.more asks.may behind))
          ∙ progress.blocks before;
      total =
          let more : total_len (pieces_of dest (these ++ d ∷ [])) ≡ total_len (pieces_of dest these) + total_len (pieces_by (kind_of d) dest d) =
          ap total_len (pieces_of-more dest [] these d)
          ∙ sum_by-append piece_len (pieces_of dest these) (pieces_by (kind_of d) dest d) in
          omega (arith, more, behind.total, progress.total);
      in_range = in_range;
      whole = let count = length-drop 16 (byte ∷ rest) in let whole = progress.whole in omega arith;
    }

-- nothing more is asked, or nothing is left
pub Progress-end : (mapped : ℕ → Bool) (dest : Bool) (start : Cursor) (bytes : List ℕ) (those : List (List ℕ)) (now : Cursor) (rest : List ℕ) (these : List (List ℕ))
    → Progress mapped dest start bytes those now rest these
    → ((before : List Piece) → HasEnded (reading_from mapped dest now before) rest)
    → ReadsPart mapped dest start bytes those now these
Progress-end mapped dest start bytes those now rest these progress ended = record {
  dialogue = λ before. sym (ended (before ++ pieces_of dest these)).fed ∙ progress.dialogue before;
  blocks = λ before.
      sym (append-nil these)
      ∙ ap (λ (ds : List (List ℕ)). these ++ ds) (sym (ended (before ++ pieces_of dest these)).taken)
      ∙ progress.blocks before;
  total = progress.total;
  in_range = progress.in_range;
}

-- less than one descriptor is left: nothing is
pub none_left : (mapped : ℕ → Bool) (dest : Bool) (now : Cursor) (rest : List ℕ) (before : List Piece)
    → length rest % 16 ≡ 0 → length rest < 16 → HasEnded (reading_from mapped dest now before) rest
none_left mapped dest now [] before whole few =
    record { fed = fed-nil (reading_from mapped dest now before); taken = taken-nil (reading_from mapped dest now before) }
none_left mapped dest now (byte ∷ rest) before whole few = absurd (omega arith)

-- one descriptor further, in the names of the code
pub Progress-next : (mapped : ℕ → Bool) (dest : Bool) (start : Cursor) (bytes : List ℕ) (those : List (List ℕ)) (now : Cursor)
    (rest : List ℕ) (these : List (List ℕ)) (skipped next : Cursor) (d more : List ℕ) (news : List (List ℕ))
    → Progress mapped dest start bytes those now rest these → is_asking now ≡ true → 16 ≤ length rest
    → skipped ≡ past now → d ≡ take 16 rest → more ≡ drop 16 rest → news ≡ these ++ d ∷ []
    → StandsBehind mapped dest skipped d next → IsInRange next → Progress mapped dest start bytes those next more news
Progress-next mapped dest start bytes those now rest these skipped next d more news progress asking some is_past is_first is_rest is_more behind in_range =
    let behind_first : StandsBehind mapped dest (past now) (take 16 rest) next =
    let P : List ℕ → Type 0 = λ e. StandsBehind mapped dest (past now) e next in
    let Q : Cursor → Type 0 = λ c. StandsBehind mapped dest c d next in
    subst P is_first (subst Q is_past behind) in
    let news_first : news ≡ these ++ take 16 rest ∷ [] = is_more ∙ ap (λ (e : List ℕ). these ++ e ∷ []) is_first in
    let P : List ℕ → Type 0 = λ l. Progress mapped dest start bytes those next l news in
    let Q : List (List ℕ) → Type 0 = λ l. Progress mapped dest start bytes those next (drop 16 rest) l in
    subst P (sym is_rest) (subst Q (sym news_first) (Progress-step mapped dest start bytes those now rest these next progress asking some behind_first in_range))

-- the cursor behind so many Data Blocks that are mapped, where so many bytes are named until there
abbrev pub behind_blocks : Cursor → ℕ → ℕ → Cursor
behind_blocks c count total = record c { from = c.from + 16 * count; left = c.left - count; budget = c.budget - count; total = total }

-- how many bytes a Data Block names
run-total : (addr len : ℕ) → total_len (run addr len) ≡ len
run-total addr len =
    (elim (len == 0) as (λ b. (len == 0) ≡ b → total_len (cond b [] (Run addr len ∷ [])) ≡ len) [
      | true ↦ λ is. sym (eqb-true len 0 is)
      | false ↦ λ is. zero-add len
    ]) refl

-- one Data Block further
blocks-behind : (mapped : ℕ → Bool) (dest : Bool) (c : Cursor) (count total : ℕ) (d : List ℕ)
    → c.fault ≡ None → kind_of d ≡ Some DataBlock → everywhere mapped (address_of d) (length_of d) ≡ true
    → StandsBehind mapped dest (past (behind_blocks c count total)) d (behind_blocks c (count + 1) (total + length_of d))
blocks-behind mapped dest c count total d sound kind holds =
    let rest : Array = array_at (past (behind_blocks c count total)) in
    record {
      fault =
          sound
          ∙ sym (ap (λ (k : Option DescriptorType). fault_by k mapped rest d) kind
          ∙ ap (λ (b : Bool). first_failing ((not b, DataTransferError) ∷ [])) holds);
      array = λ none.
          ap₂ (λ (from left : ℕ). let a : Array = record { from = from; left = left; by_last = c.by_last } in a) (omega arith) (omega arith)
          ∙ sym (ap (λ (k : Option DescriptorType). array_by k rest d) kind);
      budget = omega arith;
      total = ap (λ (n : ℕ). total + n) (sym (ap (λ (k : Option DescriptorType). total_len (pieces_by k dest d)) kind ∙ run-total (address_of d) (length_of d)));
    }

-- the cursor still asks
blocks-asks : (c : Cursor) (count total : ℕ) → c.fault ≡ None → count < c.left → count < c.budget → is_asking (behind_blocks c count total) ≡ true
blocks-asks c count total sound left budget = rw sound (grind (arith, nat_tests))

-- one Data Block further, in the names of the code
pub Progress-block : (mapped : ℕ → Bool) (dest : Bool) (start : Cursor) (bytes : List ℕ) (those : List (List ℕ)) (count total : ℕ)
    (rest : List ℕ) (these : List (List ℕ)) (d more : List ℕ) (news : List (List ℕ))
    → Progress mapped dest start bytes those (behind_blocks start count total) rest these → start.fault ≡ None → count < start.left → count < start.budget
    → 16 ≤ length rest → length_of d < 2 ^ 32
    → d ≡ take 16 rest → more ≡ drop 16 rest → news ≡ these ++ d ∷ []
    → kind_of d ≡ Some DataBlock → everywhere mapped (address_of d) (length_of d) ≡ true
    → Progress mapped dest start bytes those (behind_blocks start (count + 1) (total + length_of d)) more news
Progress-block mapped dest start bytes those count total rest these d more news progress sound left budget some fits is_first is_rest is_more kind holds =
    let array = progress.in_range.array in
    let room = progress.in_range.total in
    Progress-next
    mapped dest start bytes those (behind_blocks start count total) rest these (past (behind_blocks start count total))
    (behind_blocks start (count + 1) (total + length_of d)) d more news
    progress (blocks-asks start count total sound left budget) some refl is_first is_rest is_more
    (blocks-behind mapped dest start count total d sound kind holds)
    (record { array = omega arith; total = omega arith })

-- ---- the same where the pieces alone are kept

-- how far a part was read
pub record NamesSoFar (mapped : ℕ → Bool) (dest : Bool) (start : Cursor) (bytes : List ℕ) (those : List Piece) (now : Cursor) (rest : List ℕ) (these : List Piece) : Type 0 where
  pub dialogue : fed (reading_from mapped dest now these) rest ≡ fed (reading_from mapped dest start those) bytes
  pub total : now.total + total_len those ≡ start.total + total_len these
  pub in_range : IsInRange now
  pub whole : length rest % 16 ≡ 0

-- one descriptor further
NamesSoFar-step : (mapped : ℕ → Bool) (dest : Bool) (start : Cursor) (bytes : List ℕ) (those : List Piece) (now : Cursor) (rest : List ℕ) (these : List Piece) (next : Cursor)
    → NamesSoFar mapped dest start bytes those now rest these → is_asking now ≡ true → 16 ≤ length rest
    → StandsBehind mapped dest (past now) (take 16 rest) next → IsInRange next
    → NamesSoFar mapped dest start bytes those next (drop 16 rest) (these ++ pieces_by (kind_of (take 16 rest)) dest (take 16 rest))
NamesSoFar-step mapped dest start bytes those now [] these next so_far asking some behind in_range = absurd (omega arith)
NamesSoFar-step mapped dest start bytes those now (byte ∷ rest) these next so_far asking some behind in_range =
    let d : List ℕ = take 16 (byte ∷ rest) in
    let asks : Asks now.fault now.left now.budget = asks_by now.fault now.left now.budget asking in
    record {
      dialogue =
          sym (reading_from-fed mapped dest now next these byte rest asks.sound asks.more asks.may behind)
          ∙ so_far.dialogue;
      total =
          let more : total_len (these ++ pieces_by (kind_of d) dest d) ≡ total_len these + total_len (pieces_by (kind_of d) dest d) =
          sum_by-append piece_len these (pieces_by (kind_of d) dest d) in
          omega (arith, more, behind.total, so_far.total);
      in_range = in_range;
      whole = let count = length-drop 16 (byte ∷ rest) in let whole = so_far.whole in omega arith;
    }

-- the same in the names of the code
pub NamesSoFar-next : (mapped : ℕ → Bool) (dest : Bool) (start : Cursor) (bytes : List ℕ) (those : List Piece) (now : Cursor)
    (rest : List ℕ) (these : List Piece) (skipped next : Cursor) (d more : List ℕ) (news : List Piece)
    → NamesSoFar mapped dest start bytes those now rest these → is_asking now ≡ true → 16 ≤ length rest
    → skipped ≡ past now → d ≡ take 16 rest → more ≡ drop 16 rest → news ≡ these ++ pieces_by (kind_of d) dest d
    → StandsBehind mapped dest skipped d next → IsInRange next → NamesSoFar mapped dest start bytes those next more news
NamesSoFar-next mapped dest start bytes those now rest these skipped next d more news so_far asking some is_past is_first is_rest is_more behind in_range =
    let behind_first : StandsBehind mapped dest (past now) (take 16 rest) next =
    let P : List ℕ → Type 0 = λ e. StandsBehind mapped dest (past now) e next in
    let Q : Cursor → Type 0 = λ c. StandsBehind mapped dest c d next in
    subst P is_first (subst Q is_past behind) in
    let news_first : news ≡ these ++ pieces_by (kind_of (take 16 rest)) dest (take 16 rest) =
    is_more ∙ ap (λ (e : List ℕ). these ++ pieces_by (kind_of e) dest e) is_first in
    let P : List ℕ → Type 0 = λ l. NamesSoFar mapped dest start bytes those next l news in
    let Q : List Piece → Type 0 = λ l. NamesSoFar mapped dest start bytes those next (drop 16 rest) l in
    subst P (sym is_rest) (subst Q (sym news_first) (NamesSoFar-step mapped dest start bytes those now rest these next so_far asking some behind_first in_range))

-- nothing more is asked, or nothing is left
pub NamesSoFar-end : (mapped : ℕ → Bool) (dest : Bool) (start : Cursor) (bytes : List ℕ) (those : List Piece) (now : Cursor) (rest : List ℕ) (these : List Piece)
    → NamesSoFar mapped dest start bytes those now rest these → HasEnded (reading_from mapped dest now these) rest
    → NamesPart mapped dest start bytes those now these
NamesSoFar-end mapped dest start bytes those now rest these so_far ended =
    record { dialogue = sym ended.fed ∙ so_far.dialogue; total = so_far.total; in_range = so_far.in_range }
