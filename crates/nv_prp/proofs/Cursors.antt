-- Lemmas on a cursor that goes past a slot.
use Rattle.std.proofs.Common.{◌≡◌, ℕ, zero, suc, ◌+◌, ◌-◌, ◌*◌, ◌%◌, ◌<◌, ◌≤◌, min}
use Rattle.std.proofs.Common.{Bool, true, false, cond, ◌&&◌, ◌==◌, nat_lt, if◌then◌else◌, is_none, List}
use Rattle.std.proofs.Common.{[], ◌∷◌, ◌++◌, length, take, drop, Option, Some, None, arith, refl, sym, ap, ◌∙◌, inl, inr}
use Rattle.std.proofs.lemmas.Bool.{cases_lt}
use Rattle.std.proofs.lemmas.Bool.Decides.{nat_tests}
use Rattle.nv_entry.specs.Layout.{number_at}
use Rattle.nv_entry.specs.declared.status_code.StatusCode.{StatusCode}
use Rattle.nv_mem.specs.declared.piece.Piece.{Piece}
use Rattle.nv_mem.specs.declared.piece.Piece.TheVariants.{Run}
use Rattle.nv_model.specs.Dialogue.{Dialogue, End, Ask}
use Rattle.nv_model.specs.Prp.{entry_fault, read_entries, read_page, read_prp2, slots_of}
use Rattle.nv_model.specs.Limits.{page}
use Rattle.nv_model.specs.Reading.{Reading, Spells, unless_faulty, run}
use Rattle.nv_model.specs.Transcript.{fed}
use Rattle.nv_model.proofs.Feedings.{fed-nil}
use Rattle.nv_prp.specs.Cursor.{ahead, is_asking, is_at_pointer, read_entry, read_slot, reading_from, IsInRange}
use Rattle.nv_prp.specs.declared.cursor.Cursor.{Cursor}

-- ---- what is read from a cursor

-- where what was read last is faulty, nothing more is read
pub reading-faulty : (mapped : ℕ → Bool) (c : Cursor) (runs : List Piece) (code : StatusCode) (fault : Option StatusCode) (more : Dialogue Reading)
    → c.fault ≡ Some code → Some code ≡ fault → reading_from mapped c runs ≡ unless_faulty fault more
unfolding reading_from
reading-faulty mapped c runs code fault more is same =
    ap (λ (f : Option StatusCode). unless_faulty f (read_entries mapped c.pages c.slots c.from c.bytes runs)) is
    ∙ ap (λ (f : Option StatusCode). unless_faulty f more) same

-- where it is sound, the entries are read
pub reading-fine : (mapped : ℕ → Bool) (c : Cursor) (runs : List Piece) (fault : Option StatusCode) (more : Dialogue Reading)
    → c.fault ≡ None → None ≡ fault → read_entries mapped c.pages c.slots c.from c.bytes runs ≡ more
    → reading_from mapped c runs ≡ unless_faulty fault more
unfolding reading_from
reading-fine mapped c runs fault more is same reads =
    ap (λ (f : Option StatusCode). unless_faulty f (read_entries mapped c.pages c.slots c.from c.bytes runs)) is
    ∙ reads
    ∙ ap (λ (f : Option StatusCode). unless_faulty f more) same

-- where no pages are left, the runs are spelt
pub reading-end : (mapped : ℕ → Bool) (c : Cursor) (runs : List Piece) → c.fault ≡ None → c.pages ≡ 0
    → reading_from mapped c runs ≡ End (Spells runs)
unfolding reading_from read_entries
reading-end mapped c runs sound none = rw (sound, none) refl

-- ---- what PRP1 and PRP2 say

-- a run of some bytes
pub run-some : (addr len : ℕ) → 0 < len → run addr len ≡ Run addr len ∷ []
run-some addr len some =
    let is : (len == 0) ≡ false = grind (arith, nat_tests) in
    ap (λ (b : Bool). cond b [] (Run addr len ∷ [])) is

-- PRP2 is a page entry
pub read_prp2-entry : (mapped : ℕ → Bool) (pages prp2 bytes : ℕ) (runs : List Piece) → pages ≡ 1
    → read_page mapped bytes runs (λ rs. read_entries mapped (pages - 1) (1 - 1) (0 + 8) (bytes - page) rs) prp2 ≡ read_prp2 mapped pages prp2 bytes runs
unfolding read_entries
read_prp2-entry mapped pages prp2 bytes runs one = rw one refl

-- or a pointer to a list
pub read_prp2-list : (mapped : ℕ → Bool) (pages prp2 bytes : ℕ) (runs : List Piece) → 1 < pages
    → read_prp2 mapped pages prp2 bytes runs
    ≡ unless_faulty (entry_fault mapped 8 prp2 (8 * min (slots_of prp2) pages)) (read_entries mapped pages (slots_of prp2) prp2 bytes runs)
read_prp2-list mapped zero prp2 bytes runs more = absurd (omega arith)
read_prp2-list mapped (suc zero) prp2 bytes runs more = absurd (omega arith)
read_prp2-list mapped (suc (suc pages)) prp2 bytes runs more = refl

-- ---- the next slot

-- an entry without a fault: its run is added
pub read_entries-behind : (mapped : ℕ → Bool) (pages slots from bytes addr len : ℕ) (runs new : List Piece)
    → len ≡ min bytes 4096 → 0 < len → new ≡ runs ++ Run addr len ∷ []
    → read_entries mapped pages slots from (bytes - len) new ≡ read_entries mapped pages slots from (bytes - page) (runs ++ run addr (min bytes page))
read_entries-behind mapped pages slots from bytes addr len runs new is some added =
    let left : bytes - len ≡ bytes - page = omega arith in
    ap (λ (n : ℕ). read_entries mapped pages slots from n new) left
    ∙ ap (read_entries mapped pages slots from (bytes - page))
    (added ∙ ap (λ (rs : List Piece). runs ++ rs) (sym (run-some addr len some) ∙ ap (run addr) is))

-- what a slot with this number leads to, where `pages` pages are left behind the next one
abbrev pub behind_slot : (ℕ → Bool) → (pages slots from bytes : ℕ) → List Piece → ℕ → Dialogue Reading
behind_slot mapped pages slots from bytes runs value =
    if slots == 1 && nat_lt 0 pages then
    unless_faulty (entry_fault mapped page value (8 * min 512 (suc pages))) (read_entries mapped (suc pages) 512 value bytes runs)
    else read_page mapped bytes runs (λ rs. read_entries mapped pages (slots - 1) (from + 8) (bytes - page) rs) value

fed-if : (b : Bool) (from left other : ℕ) (f g : List ℕ → Dialogue Reading) (byte : ℕ) (bytes : List ℕ)
    → fed (cond b (Ask from 8 left f) (Ask from 8 other g)) (byte ∷ bytes)
    ≡ fed (cond b (f (take 8 (byte ∷ bytes))) (g (take 8 (byte ∷ bytes)))) (drop 8 (byte ∷ bytes))
unfolding fed
fed-if true from left other f g byte bytes = refl
fed-if false from left other f g byte bytes = refl

-- entries that are fed take the next slot
pub read_entries-fed : (mapped : ℕ → Bool) (pages slots from bytes : ℕ) (runs : List Piece) (byte : ℕ) (more : List ℕ)
    → fed (read_entries mapped (suc pages) slots from bytes runs) (byte ∷ more)
    ≡ fed (behind_slot mapped pages slots from bytes runs (number_at (take 8 (byte ∷ more)) 0 8)) (drop 8 (byte ∷ more))
unfolding read_entries
read_entries-fed mapped pages slots from bytes runs byte more = fed-if _ _ _ _ _ _ _ _

-- what a cursor that asks has
record Asks (fault : Option StatusCode) (pages : ℕ) : Type 0 where
  sound : fault ≡ None
  more : pages ≡ suc (pages - 1)

asks_by : (fault : Option StatusCode) (pages : ℕ) → (is_none fault && nat_lt 0 pages) ≡ true → Asks fault pages
asks_by (Some code) pages is = absurd (cc)
asks_by None pages is = record { sound = refl; more = grind (arith, nat_tests) }

-- a cursor that asks is sound, and has pages left
pub asking-sound : (c : Cursor) → is_asking c ≡ true → c.fault ≡ None
asking-sound c asking = (asks_by c.fault c.pages asking).sound

pub asking-some : (c : Cursor) → is_asking c ≡ true → 0 < c.pages
asking-some c asking = let more = (asks_by c.fault c.pages asking).more in omega arith

-- fed, it goes past the next slot
pub reading-fed : (mapped : ℕ → Bool) (c : Cursor) (runs : List Piece) (byte : ℕ) (more : List ℕ) → is_asking c ≡ true
    → fed (reading_from mapped c runs) (byte ∷ more) ≡ fed (read_slot mapped c runs (number_at (take 8 (byte ∷ more)) 0 8)) (drop 8 (byte ∷ more))
unfolding reading_from read_slot
reading-fed mapped c runs byte more asking =
    let asks = asks_by c.fault c.pages asking in
    let value : ℕ = number_at (take 8 (byte ∷ more)) 0 8 in
    ap (λ (f : Option StatusCode). fed (unless_faulty f (read_entries mapped c.pages c.slots c.from c.bytes runs)) (byte ∷ more)) asks.sound
    ∙ ap (λ (n : ℕ). fed (read_entries mapped n c.slots c.from c.bytes runs) (byte ∷ more)) asks.more
    ∙ read_entries-fed mapped (c.pages - 1) c.slots c.from c.bytes runs byte more
    ∙ ap
    (λ (n : ℕ).
    fed
    (cond
    (is_at_pointer c)
    (unless_faulty (entry_fault mapped page value (8 * min 512 n)) (read_entries mapped n 512 value c.bytes runs))
    (read_entry mapped c runs value))
    (drop 8 (byte ∷ more)))
    (sym asks.more)

-- ---- how far a part was read

-- what is left of the part leads from here to where the whole leads from the start
pub record Progress (mapped : ℕ → Bool) (start : Cursor) (bytes : List ℕ) (those : List Piece) (now : Cursor) (rest : List ℕ) (these : List Piece) : Type 0 where
  pub dialogue : fed (reading_from mapped now these) rest ≡ fed (reading_from mapped start those) bytes
  pub in_range : IsInRange now these
  pub whole : length rest % 8 ≡ 0
  pub within : length rest ≤ length bytes
  pub less : length rest < length bytes → ahead now < ahead start
  pub same : length rest ≡ length bytes → now ≡ start

-- before the first slot
pub Progress-start : (mapped : ℕ → Bool) (start : Cursor) (bytes : List ℕ) (those : List Piece) → IsInRange start those
    → length bytes % 8 ≡ 0
    → Progress mapped start bytes those start bytes those
Progress-start mapped start bytes those in_range whole =
    record { dialogue = refl; in_range = in_range; whole = whole; within = omega arith; less = λ less. absurd (omega arith); same = λ _. refl }

-- less is left than before a step, and so than at the start
Less-by : (rest whole next now start : ℕ) → rest ≤ whole → next < now → (rest < whole → now < start)
    → (rest ≡ whole → now ≡ start) → next < start
Less-by rest whole next now start within step less same =
    elim (cases_lt rest whole) [
      | inl some ↦ let before = less some in omega arith
      | inr none ↦ let all : rest ≡ whole = omega arith in let before = same all in omega arith
    ]

-- one slot further
pub Progress-step : (mapped : ℕ → Bool) (start : Cursor) (bytes : List ℕ) (those : List Piece) (now : Cursor)
    (rest : List ℕ) (these : List Piece) (slot : List ℕ) (value : ℕ) (more : List ℕ) (next : Cursor) (new : List Piece)
    → Progress mapped start bytes those now rest these → is_asking now ≡ true → slot ≡ take 8 rest → more ≡ drop 8 rest
    → length more + 8 ≡ length rest
    → value ≡ number_at slot 0 8 → reading_from mapped next new ≡ read_slot mapped now these value → IsInRange next new
    → ahead next < ahead now
    → Progress mapped start bytes those next more new
Progress-step mapped start bytes those now [] these slot value more next new progress asking is_slot is_more less is_value reads in_range fewer = absurd (omega arith)
Progress-step mapped start bytes those now (byte ∷ rest) these slot value more next new progress asking is_slot is_more less is_value reads in_range fewer =
    let is : value ≡ number_at (take 8 (byte ∷ rest)) 0 8 = is_value ∙ ap (λ (s : List ℕ). number_at s 0 8) is_slot in
    record {
      dialogue =
          ap (fed (reading_from mapped next new)) is_more
          ∙ ap (λ (d : Dialogue Reading). fed d (drop 8 (byte ∷ rest))) (reads ∙ ap (read_slot mapped now these) is)
          ∙ sym (reading-fed mapped now these byte rest asking)
          ∙ progress.dialogue;
      in_range = in_range;
      whole = let whole = progress.whole in omega arith;
      within = let within = progress.within in omega arith;
      less = λ _. Less-by (length (byte ∷ rest)) (length bytes) (ahead next) (ahead now) (ahead start) progress.within fewer progress.less (λ same. ap ahead (progress.same same));
      same = λ same. absurd (let within = progress.within in omega arith);
    }

-- nothing more is asked
ended_by : (mapped : ℕ → Bool) (fault : Option StatusCode) (pages slots from bytes : ℕ) (runs : List Piece) (more : List ℕ)
    → (is_none fault && nat_lt 0 pages) ≡ false
    → fed (unless_faulty fault (read_entries mapped pages slots from bytes runs)) more ≡ unless_faulty fault (read_entries mapped pages slots from bytes runs)
unfolding fed read_entries
ended_by mapped (Some code) pages slots from bytes runs more is = refl
ended_by mapped None zero slots from bytes runs more is = refl
ended_by mapped None (suc pages) slots from bytes runs more is = absurd (grind (arith, nat_tests))

pub reading-ended : (mapped : ℕ → Bool) (c : Cursor) (runs : List Piece) (more : List ℕ) → is_asking c ≡ false
    → fed (reading_from mapped c runs) more ≡ reading_from mapped c runs
unfolding reading_from
reading-ended mapped c runs more is = ended_by mapped c.fault c.pages c.slots c.from c.bytes runs more is

-- nothing is left of the part
pub reading-unfed : (mapped : ℕ → Bool) (c : Cursor) (runs : List Piece) (rest : List ℕ) → length rest % 8 ≡ 0
    → length rest < 8 → fed (reading_from mapped c runs) rest ≡ reading_from mapped c runs
reading-unfed mapped c runs [] whole few = fed-nil (reading_from mapped c runs)
reading-unfed mapped c runs (byte ∷ rest) whole few = absurd (omega arith)
