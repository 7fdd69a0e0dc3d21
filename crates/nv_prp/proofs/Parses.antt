-- Lemmas on what a parse wants and how it goes on.
use Rattle.std.proofs.Common.{◌≡◌, ◌≢◌, ℕ, zero, suc, ◌-◌, ◌*◌, ◌%◌, ◌<◌, ◌≤◌, min, Bool, true, false}
use Rattle.std.proofs.Common.{cond, ◌&&◌, ◌==◌, nat_lt, is_none, List, Option, Some, None, arith, refl, sym, ap, ◌∙◌}
use Rattle.std.proofs.lemmas.Bool.Decides.{nat_tests}
use Rattle.nv_entry.specs.StatusCode.{refused_with}
use Rattle.nv_entry.specs.declared.status_code.StatusCode.{StatusCode}
use Rattle.nv_mem.specs.GuestMap.{mapped}
use Rattle.nv_mem.specs.declared.piece.Piece.{Piece}
use Rattle.nv_model.specs.Dialogue.{Dialogue, End, Ask}
use Rattle.nv_model.specs.Prp.{read_entries}
use Rattle.nv_model.specs.Reading.{Reading, Spells, unless_faulty}
use Rattle.nv_model.specs.Transcript.{part}
use Rattle.nv_model.specs.Want.{want_of}
use Rattle.nv_model.specs.declared.want.Want.TheVariants as want
use Rattle.nv_prp.specs.Cursor.{is_asking}
use Rattle.nv_prp.specs.Parse.{Parse, dialogue_of}
use Rattle.nv_prp.specs.declared.cursor.Cursor.{Cursor}

-- ---- what is wanted

-- what was read last is faulty
pub want_of-fault : (p : Parse) (code : StatusCode) → p.fault ≡ Some code
    → want_of (dialogue_of p) ≡ want.Fault (refused_with code)
unfolding dialogue_of
want_of-fault p code fault = rw fault refl

-- no pages are left
pub dialogue_of-end : (p : Parse) → p.fault ≡ None → p.pages ≡ 0 → dialogue_of p ≡ End (Spells p.runs)
unfolding dialogue_of read_entries
dialogue_of-end p sound none = rw (sound, none) refl

want_of-if : (b : Bool) (from left other len : ℕ) (f g : List ℕ → Dialogue Reading) → (b ≡ true → part left ≡ len)
    → (b ≡ false → part other ≡ len)
    → want_of (cond b (Ask from 8 left f) (Ask from 8 other g)) ≡ want.Read from len
want_of-if true from left other len f g so not_so = ap (want.Read from) (so refl)
want_of-if false from left other len f g so not_so = ap (want.Read from) (not_so refl)

-- where the next slot is a pointer it is the last of its page
pub at-pointer : (slots pages : ℕ) → (slots == 1 && nat_lt 0 pages) ≡ true → (slots ≡ 1) × (0 < pages)
at-pointer slots pages is = (grind (arith, nat_tests), grind (arith, nat_tests))

-- the needed slots of the list page
read_entries-want : (mapped : ℕ → Bool) (pages slots from bytes : ℕ) (runs : List Piece) → 0 < slots → slots ≤ 512
    → want_of (read_entries mapped (suc pages) slots from bytes runs) ≡ want.Read from (8 * min slots (suc pages))
unfolding read_entries
read_entries-want mapped pages slots from bytes runs some most =
    want_of-if (slots == 1 && nat_lt 0 pages) from _ _ _ _ _ (λ is. let at = at-pointer slots pages is in omega arith) (λ is. omega arith)

pub want_of-part : (p : Parse) → p.fault ≡ None → p.pages ≢ 0 → 0 < p.slots → p.slots ≤ 512
    → want_of (dialogue_of p) ≡ want.Read p.from (8 * min p.slots p.pages)
unfolding dialogue_of
want_of-part p sound pages some most =
    let more : p.pages ≡ suc (p.pages - 1) = omega arith in
    ap (λ (f : Option StatusCode). want_of (unless_faulty f (read_entries (mapped p.regions) p.pages p.slots p.from p.bytes p.runs))) sound
    ∙ ap (λ (n : ℕ). want_of (read_entries (mapped p.regions) n p.slots p.from p.bytes p.runs)) more
    ∙ read_entries-want (mapped p.regions) (p.pages - 1) p.slots p.from p.bytes p.runs some most
    ∙ ap (λ (n : ℕ). want.Read p.from (8 * min p.slots n)) (sym more)

-- ---- what a want says

-- some of the slots to the end of the list page, from the next one on, and no more than there are pages
pub record IsPart (pages slots from addr len : ℕ) : Type 0 where
  pub count : ℕ
  pub within : count ≤ slots
  pub needed : count ≤ pages
  pub size : len ≡ 8 * count
  pub start : addr ≡ from

-- a pointer, or entries
part-pointer : (pages slots from addr len : ℕ) → (slots == 1 && nat_lt 0 pages) ≡ true → part 8 ≡ len → from ≡ addr
    → IsPart (suc pages) slots from addr len
part-pointer pages slots from addr len is same at =
    let one = at-pointer slots pages is in
    record { count = 1; within = omega arith; needed = omega arith; size = sym same; start = sym at }

part-entries : (pages slots from addr len : ℕ) → part (8 * min slots (suc pages)) ≡ len → from ≡ addr
    → IsPart (suc pages) slots from addr len
part-entries pages slots from addr len same at =
    record { count = min (min slots (suc pages)) 512; within = omega arith; needed = omega arith; size = omega arith; start = sym at }

wanted_if : (b : Bool) (pages slots from left other addr len : ℕ) (f g : List ℕ → Dialogue Reading)
    → (b ≡ true → part left ≡ len → from ≡ addr → IsPart (suc pages) slots from addr len)
    → (b ≡ false → part other ≡ len → from ≡ addr → IsPart (suc pages) slots from addr len)
    → want_of (cond b (Ask from 8 left f) (Ask from 8 other g)) ≡ want.Read addr len
    → IsPart (suc pages) slots from addr len
wanted_if true pages slots from left other addr len f g so not_so wanted =
    let same : part left ≡ len = cc in let at : from ≡ addr = cc in so refl same at
wanted_if false pages slots from left other addr len f g so not_so wanted =
    let same : part other ≡ len = cc in let at : from ≡ addr = cc in not_so refl same at

wanted_by : (mapped : ℕ → Bool) (fault : Option StatusCode) (pages slots from bytes : ℕ) (runs : List Piece) (addr len : ℕ)
    → want_of (unless_faulty fault (read_entries mapped pages slots from bytes runs)) ≡ want.Read addr len
    → IsPart pages slots from addr len
unfolding read_entries
wanted_by mapped (Some code) pages slots from bytes runs addr len wanted = absurd (cc)
wanted_by mapped None zero slots from bytes runs addr len wanted = absurd (cc)
wanted_by mapped None (suc pages) slots from bytes runs addr len wanted =
    wanted_if
    (slots == 1 && nat_lt 0 pages) pages slots from _ _ addr len _ _ (λ is. part-pointer pages slots from addr len is)
    (λ is. part-entries pages slots from addr len) wanted

pub want_of-part_of : (p : Parse) (addr len : ℕ) → want_of (dialogue_of p) ≡ want.Read addr len
    → IsPart p.pages p.slots p.from addr len
unfolding dialogue_of
want_of-part_of p addr len wanted =
    wanted_by (mapped p.regions) p.fault p.pages p.slots p.from p.bytes p.runs addr len wanted

-- so whole slots are wanted
pub want_of-whole : (p : Parse) (addr len : ℕ) → want_of (dialogue_of p) ≡ want.Read addr len → len % 8 ≡ 0
want_of-whole p addr len wanted = let is = (want_of-part_of p addr len wanted).size in omega arith

-- a parse that wants bytes asks for the next slot
pub record IsAsking (fault : Option StatusCode) (pages : ℕ) : Type 0 where
  pub sound : fault ≡ None
  pub some : 0 < pages

asking_by : (mapped : ℕ → Bool) (fault : Option StatusCode) (pages slots from bytes : ℕ) (runs : List Piece) (addr len : ℕ)
    → want_of (unless_faulty fault (read_entries mapped pages slots from bytes runs)) ≡ want.Read addr len
    → IsAsking fault pages
unfolding read_entries
asking_by mapped (Some code) pages slots from bytes runs addr len wanted = absurd (cc)
asking_by mapped None zero slots from bytes runs addr len wanted = absurd (cc)
asking_by mapped None (suc pages) slots from bytes runs addr len wanted = record { sound = refl; some = omega arith }

pub want_of-asking : (p : Parse) (addr len : ℕ) → want_of (dialogue_of p) ≡ want.Read addr len
    → IsAsking p.fault p.pages
unfolding dialogue_of
want_of-asking p addr len wanted =
    asking_by (mapped p.regions) p.fault p.pages p.slots p.from p.bytes p.runs addr len wanted

-- and at least one
pub want_of-some : (p : Parse) (addr len : ℕ) → want_of (dialogue_of p) ≡ want.Read addr len → 0 < p.slots
    → p.slots ≤ 512 → 0 < len
want_of-some p addr len wanted some most =
    let asking = want_of-asking p addr len wanted in
    let pages : 0 < p.pages = asking.some in
    let is : want.Read p.from (8 * min p.slots p.pages) ≡ want.Read addr len = sym (want_of-part p asking.sound (λ none. omega arith) some most) ∙ wanted in
    let size : 8 * min p.slots p.pages ≡ len = cc in
    omega arith

-- a cursor with pages left and no fault asks
pub is_asking-by : (c : Cursor) → c.fault ≡ None → 0 < c.pages → is_asking c ≡ true
is_asking-by c sound some =
    let more : nat_lt 0 c.pages ≡ true = grind (arith, nat_tests) in
    ap (λ (f : Option StatusCode). is_none f && nat_lt 0 c.pages) sound ∙ more

-- what is done has spelt
done_if : (b : Bool) (from left other : ℕ) (f g : List ℕ → Dialogue Reading)
    → want_of (cond b (Ask from 8 left f) (Ask from 8 other g)) ≡ want.Done → ⊥
done_if true from left other f g done = cc
done_if false from left other f g done = cc

done_by : (mapped : ℕ → Bool) (fault : Option StatusCode) (pages slots from bytes : ℕ) (runs : List Piece)
    → want_of (unless_faulty fault (read_entries mapped pages slots from bytes runs)) ≡ want.Done
    → unless_faulty fault (read_entries mapped pages slots from bytes runs) ≡ End (Spells runs)
unfolding read_entries
done_by mapped (Some code) pages slots from bytes runs done = absurd (cc)
done_by mapped None zero slots from bytes runs done = refl
done_by mapped None (suc pages) slots from bytes runs done =
    absurd (done_if (slots == 1 && nat_lt 0 pages) from _ _ _ _ done)

-- a parse that is done spells its runs
pub want_of-done : (p : Parse) → want_of (dialogue_of p) ≡ want.Done → dialogue_of p ≡ End (Spells p.runs)
unfolding dialogue_of
want_of-done p done = done_by (mapped p.regions) p.fault p.pages p.slots p.from p.bytes p.runs done
