-- A list that is fed the parts that a transcript meets, and what is judged of it then.
use Rattle.std.proofs.Common.{◌≡◌, ℕ, ◌+◌, ◌-◌, ◌<◌, ◌≤◌, Bool, true, false, cond, ◌==◌, List, []}
use Rattle.std.proofs.Common.{◌∷◌, All, Option, Some, None, drop, length, take, arith, refl, sym, ap, ◌∙◌, subst}
use Rattle.std.proofs.lemmas.List.{length-drop, length-take-le}
use Rattle.nv_entry.specs.Status.{StatusField}
use Rattle.nv_entry.specs.StatusCode.{done_with}
use Rattle.nv_entry.specs.declared.data_pointer.DataPointer.{DataPointer}
use Rattle.nv_entry.specs.declared.opcode.IoOpcode.{IoOpcode}
use Rattle.nv_entry.specs.declared.status_code.StatusCode.TheVariants.{InternalError, SglLengthInvalid}
use Rattle.nv_mem.specs.Places.{total_len}
use Rattle.nv_mem.specs.declared.piece.Piece.{Piece}
use Rattle.nv_model.specs.Dialogue.{Dialogue, End, Ask, and_then}
use Rattle.nv_model.specs.Endings.{IsPartFor}
use Rattle.nv_model.specs.Judge.{Refuse, Verdict, judge_reading, read_by, sized}
use Rattle.nv_model.specs.Parts.{in_hand}
use Rattle.nv_model.specs.Reading.{Reading, Faulty, TooLong, Spells}
use Rattle.nv_model.specs.Transcript.{Outcome, ReadDone, Settled, Wanted, fed, first_read, in_transcript, met_by, part}
use Rattle.nv_model.specs.Want.{want_of}
use Rattle.nv_model.specs.declared.want.Want.TheVariants as want
use Rattle.nv_model.proofs.AskedOften.{AsksAtMost, AsksAtMost-and_then, AsksAtMost-fed, wants-more}
use Rattle.nv_model.proofs.Endings.{EndsIn, EndsIn-and_then, OfPieces}
use Rattle.nv_model.proofs.Feedings.{fed-nil, in_transcript-fed}
use Rattle.nv_model.proofs.InParts.{IsUsedUp, UsesUpTo, read_buffer-part}
use Rattle.nv_model.proofs.Judged.{read_buffer-of_len}
use Rattle.nv_model.proofs.RunPieces.{IsRunPiece, read_by-runs}
use Rattle.nv_model.proofs.Shown.{first_read-length, in_hand-some}
use Rattle.nv_model.proofs.Spelled.{AreOfLen}

-- ---- dialogues

-- what all ends have, those behind fed bytes have
pub EndsIn-fed : {A : Type 0} (P : A → Type 0) (d : Dialogue A) (bytes : List ℕ) → EndsIn P d → EndsIn P (fed d bytes)
unfolding fed
EndsIn-fed P (End value) bytes ends = ends
EndsIn-fed P (Ask addr unit left next) [] ends = ends
EndsIn-fed P (Ask addr unit left next) (byte ∷ bytes) ends =
    EndsIn-fed P (next (take unit (byte ∷ bytes))) (drop unit (byte ∷ bytes)) (ends (take unit (byte ∷ bytes)))

-- what is left of a part, from a question on
behind-question : {A : Type 0} (P : ℕ → A → Type 0) (from rest addr unit left : ℕ) (next : List ℕ → Dialogue A) (bytes : List ℕ)
    → UsesUpTo P from rest (Ask addr unit left next) → length bytes ≡ in_hand rest left
    → UsesUpTo P (addr + unit) (length (drop unit bytes)) (next (take unit bytes))
behind-question P from rest addr unit left next bytes uses many =
    let fit : unit ≤ length bytes = subst (λ (n : ℕ). unit ≤ n) (sym many) uses.1 in
    let same : in_hand rest left - unit ≡ length (drop unit bytes) = ap (λ (n : ℕ). n - unit) (sym many) ∙ sym (length-drop unit bytes) in
    subst (λ (n : ℕ). UsesUpTo P (addr + unit) n (next (take unit bytes))) same (uses.2 (take unit bytes) (length-take-le unit bytes fit))

-- bytes that are left of a part are used up where they are fed
UsesUpTo-left : {A : Type 0} (P : ℕ → A → Type 0) (d : Dialogue A) (from : ℕ) (bytes : List ℕ)
    → ((n : ℕ) (value : A) → P n value → P 0 value)
    → UsesUpTo P from (length bytes) d → UsesUpTo P 0 0 (fed d bytes)
unfolding fed
UsesUpTo-left P (End value) from bytes none uses = none (length bytes) value uses
UsesUpTo-left P (Ask addr unit left next) from [] none uses = (λ some. absurd (omega arith), uses.1, uses.2)
UsesUpTo-left P (Ask addr unit left next) from (byte ∷ bytes) none uses =
    let all : List ℕ = byte ∷ bytes in
    UsesUpTo-left P (next (take unit all)) (addr + unit) (drop unit all) none
    (behind-question P from (length all) addr unit left next all uses (sym (in_hand-some (length all) left (omega arith))))

-- and so is a part
pub UsesUpTo-fed : {A : Type 0} (P : ℕ → A → Type 0) (d : Dialogue A) (bytes : List ℕ)
    → ((n : ℕ) (value : A) → P n value → P 0 value)
    → UsesUpTo P 0 0 d → IsPartFor d bytes → UsesUpTo P 0 0 (fed d bytes)
unfolding fed
UsesUpTo-fed P (End value) bytes none uses whole = uses
UsesUpTo-fed P (Ask addr unit left next) [] none uses whole = uses
UsesUpTo-fed P (Ask addr unit left next) (byte ∷ bytes) none uses whole =
    let all : List ℕ = byte ∷ bytes in
    UsesUpTo-left P (next (take unit all)) (addr + unit) (drop unit all) none (behind-question P 0 0 addr unit left next all uses whole)

-- what comes behind takes nothing of what is left of a part
abbrev pub TakesNothing : {A B : Type 0} → (P : ℕ → A → Type 0) → (A → Dialogue B) → Type 0
TakesNothing {A} P more = (value : A) (bytes : List ℕ) → P (length bytes) value → fed (more value) bytes ≡ more value

-- so a dialogue is fed before what comes behind
fed-behind : {A B : Type 0} (P : ℕ → A → Type 0) (d : Dialogue A) (more : A → Dialogue B) (from : ℕ) (bytes : List ℕ)
    → TakesNothing P more → UsesUpTo P from (length bytes) d
    → fed (and_then d more) bytes ≡ and_then (fed d bytes) more
unfolding fed and_then
fed-behind P (End value) more from bytes nothing uses = nothing value bytes uses
fed-behind P (Ask addr unit left next) more from [] nothing uses = refl
fed-behind P (Ask addr unit left next) more from (byte ∷ bytes) nothing uses =
    let all : List ℕ = byte ∷ bytes in
    fed-behind P (next (take unit all)) more (addr + unit) (drop unit all) nothing
    (behind-question P from (length all) addr unit left next all uses (sym (in_hand-some (length all) left (omega arith))))

-- a question that a transcript meets is fed the part that was read
in_transcript-behind : {A B : Type 0} (P : ℕ → A → Type 0) (addr unit left : ℕ) (next : List ℕ → Dialogue A) (more : A → Dialogue B) (bytes : List ℕ) (reads : List ReadDone)
    → TakesNothing P more → UsesUpTo P 0 0 (Ask addr unit left next) → length bytes ≡ part left → 0 < length bytes
    → in_transcript (and_then (next (take unit bytes)) more) (drop unit bytes) reads
    ≡ in_transcript (and_then (fed (Ask addr unit left next) bytes) more) [] reads
unfolding fed
in_transcript-behind P addr unit left next more [] reads nothing uses whole some = absurd (omega arith)
in_transcript-behind P addr unit left next more (byte ∷ bytes) reads nothing uses whole some =
    let all : List ℕ = byte ∷ bytes in
    in_transcript-fed (and_then (next (take unit all)) more) (drop unit all) reads
    ∙ ap (λ d. in_transcript d [] reads)
    (fed-behind P (next (take unit all)) more (addr + unit) (drop unit all) nothing (behind-question P 0 0 addr unit left next all uses whole))

-- ---- lists

-- what is known of what is still read of a list: it uses up each part, asks so often at most, and each time for something; where it
-- spells pieces, their runs are mapped, they are as long as the transfer, and those of a source are runs
pub record IsListAhead (mapped : ℕ → Bool) (n : ℕ) (dest : Bool) (len : ℕ) (d : Dialogue Reading) : Type 0 where
  pub used : UsesUpTo IsUsedUp 0 0 d
  pub asks : AsksAtMost mapped n d
  pub ends : EndsIn (OfPieces (AreOfLen mapped len)) d
  pub runs : dest ≡ false → EndsIn (OfPieces (λ pieces. All IsRunPiece pieces)) d

-- so it is before the first part of a list, whatever the data pointer holds
sized-runs : (len : ℕ) (reading : Reading) → OfPieces (λ pieces. All IsRunPiece pieces) reading
    → OfPieces (λ pieces. All IsRunPiece pieces) (sized len reading)
sized-runs len (Faulty code) runs = tt
sized-runs len TooLong runs = tt
sized-runs len (Spells pieces) runs =
    (elim (total_len pieces == len) as (λ b. OfPieces (λ ps. All IsRunPiece ps) (cond b (Spells pieces) (Faulty SglLengthInvalid))) [ true ↦ runs | false ↦ tt ])

pub IsListAhead-start : (mapped : ℕ → Bool) (n limit : ℕ) (pointer : DataPointer) (dest : Bool) (len : ℕ) (entry : List ℕ)
    → AsksAtMost mapped n (read_by pointer mapped limit dest len entry)
    → IsListAhead mapped n dest len (and_then (read_by pointer mapped limit dest len entry) (λ reading. End (sized len reading)))
IsListAhead-start mapped n limit pointer dest len entry asks =
    let list : Dialogue Reading = read_by pointer mapped limit dest len entry in
    record {
      used = read_buffer-part pointer mapped limit dest len entry;
      asks = AsksAtMost-and_then mapped n list (sized len) asks;
      ends = read_buffer-of_len pointer mapped limit entry dest len;
      runs = λ source.
          let R : Bool → Type 0 = λ b. EndsIn (OfPieces (λ pieces. All IsRunPiece pieces)) (read_by pointer mapped limit b len entry) in
          EndsIn-and_then (OfPieces (λ pieces. All IsRunPiece pieces)) (OfPieces (λ pieces. All IsRunPiece pieces)) list (λ reading. End (sized len reading))
          (subst R (sym source) (read_by-runs pointer mapped limit len entry)) (sized-runs len);
    }

-- a part of as many bytes as are wanted is fed
wanted-part : (d : Dialogue Reading) (addr len : ℕ) (bytes : List ℕ) → want_of d ≡ want.Read addr len
    → length bytes ≡ len → IsPartFor d bytes
wanted-part (End (Faulty code)) addr len bytes wanted many = tt
wanted-part (End TooLong) addr len bytes wanted many = tt
wanted-part (End (Spells pieces)) addr len bytes wanted many = tt
wanted-part (Ask from unit left next) addr len bytes wanted many = let size : part left ≡ len = cc in (cc)

-- where a list has ended, none of a part is left
none-used : (n : ℕ) (reading : Reading) → IsUsedUp n reading → IsUsedUp 0 reading
none-used n (Faulty code) used = tt
none-used n TooLong used = tt
none-used n (Spells pieces) used = refl

-- and behind each part
pub IsListAhead-more : (mapped : ℕ → Bool) (n : ℕ) (dest : Bool) (len : ℕ) (d : Dialogue Reading) (addr size : ℕ) (bytes : List ℕ)
    → IsListAhead mapped n dest len d → want_of d ≡ want.Read addr size → length bytes ≡ size
    → IsListAhead mapped n dest len (fed d bytes)
IsListAhead-more mapped n dest len d addr size bytes ahead wanted many =
    record {
      used = UsesUpTo-fed IsUsedUp d bytes none-used ahead.used (wanted-part d addr size bytes wanted many);
      asks = AsksAtMost-fed mapped n d bytes ahead.asks;
      ends = EndsIn-fed (OfPieces (AreOfLen mapped len)) d bytes ahead.ends;
      runs = λ source. EndsIn-fed (OfPieces (λ pieces. All IsRunPiece pieces)) d bytes (ahead.runs source);
    }

-- ---- what is judged of a list over a transcript

-- the verdict takes nothing of what is left of a part
judge_reading-takes : (blocks : ℕ) (entry : List ℕ) (opcode : IoOpcode) → TakesNothing IsUsedUp (judge_reading blocks entry opcode)
unfolding fed
judge_reading-takes blocks entry opcode (Faulty code) bytes used = refl
judge_reading-takes blocks entry opcode TooLong bytes used = refl
judge_reading-takes blocks entry opcode (Spells pieces) [] used = fed-nil (judge_reading blocks entry opcode (Spells pieces))
judge_reading-takes blocks entry opcode (Spells pieces) (byte ∷ bytes) used = absurd (omega arith)

-- a want that no read meets is wanted
pub judged-wanted : (blocks : ℕ) (entry : List ℕ) (opcode : IoOpcode) (d : Dialogue Reading) (addr len : ℕ) (reads : List ReadDone)
    → want_of d ≡ want.Read addr len → first_read addr len reads ≡ None
    → in_transcript (and_then d (judge_reading blocks entry opcode)) [] reads ≡ Wanted addr len
unfolding and_then in_transcript
judged-wanted blocks entry opcode (End (Faulty code)) addr len reads wanted none = (cc)
judged-wanted blocks entry opcode (End TooLong) addr len reads wanted none = (cc)
judged-wanted blocks entry opcode (End (Spells pieces)) addr len reads wanted none = (cc)
judged-wanted blocks entry opcode (Ask from unit left next) addr len reads wanted none =
    let at : from ≡ addr = (cc) in
    let size : part left ≡ len = (cc) in
    let more : List ℕ → List ReadDone → Outcome Verdict = λ bytes rest. in_transcript (and_then (next (take unit bytes)) (judge_reading blocks entry opcode)) (drop unit bytes) rest in
    ap (λ (a : ℕ). met_by a (part left) (first_read a (part left) reads) more) at
    ∙ ap (λ (n : ℕ). met_by addr n (first_read addr n reads) more) size
    ∙ ap (λ (found : Option (List ℕ × List ReadDone)). met_by addr len found more) none

-- one that a read meets goes on
pub judged-met : (mapped : ℕ → Bool) (n : ℕ) (dest : Bool) (size blocks : ℕ) (entry : List ℕ) (opcode : IoOpcode) (d : Dialogue Reading)
    (addr len : ℕ) (reads : List ReadDone) (bytes : List ℕ) (behind : List ReadDone)
    → IsListAhead mapped n dest size d → want_of d ≡ want.Read addr len → first_read addr len reads ≡ Some (bytes, behind)
    → in_transcript (and_then d (judge_reading blocks entry opcode)) [] reads
    ≡ in_transcript (and_then (fed d bytes) (judge_reading blocks entry opcode)) [] behind
unfolding and_then in_transcript
judged-met mapped n dest size blocks entry opcode (End (Faulty code)) addr len reads bytes behind ahead wanted found = (cc)
judged-met mapped n dest size blocks entry opcode (End TooLong) addr len reads bytes behind ahead wanted found = (cc)
judged-met mapped n dest size blocks entry opcode (End (Spells pieces)) addr len reads bytes behind ahead wanted found = (cc)
judged-met mapped n dest size blocks entry opcode (Ask from unit left next) addr len reads bytes behind ahead wanted found =
    let at : from ≡ addr = (cc) in
    let same : part left ≡ len = (cc) in
    let w = wants-more mapped n (Ask from unit left next) addr len ahead.asks wanted in
    let many : length bytes ≡ len = first_read-length addr len reads (bytes, behind) found in
    let some = w.some in
    let more : List ℕ → List ReadDone → Outcome Verdict = λ bytes' rest. in_transcript (and_then (next (take unit bytes')) (judge_reading blocks entry opcode)) (drop unit bytes') rest in
    ap (λ (a : ℕ). met_by a (part left) (first_read a (part left) reads) more) at
    ∙ ap (λ (k : ℕ). met_by addr k (first_read addr k reads) more) same
    ∙ ap (λ (met : Option (List ℕ × List ReadDone)). met_by addr len met more) found
    ∙ in_transcript-behind IsUsedUp from unit left next (judge_reading blocks entry opcode) bytes behind (judge_reading-takes blocks entry opcode) ahead.used (many ∙ sym same) (omega arith)

-- a list that is refused
pub judged-fault : (blocks : ℕ) (entry : List ℕ) (opcode : IoOpcode) (d : Dialogue Reading) (st : StatusField) (reads : List ReadDone)
    → want_of d ≡ want.Fault st
    → in_transcript (and_then d (judge_reading blocks entry opcode)) [] reads ≡ Settled (Refuse st)
unfolding and_then in_transcript
judged-fault blocks entry opcode (End (Faulty code)) st reads wanted = (cc)
judged-fault blocks entry opcode (End TooLong) st reads wanted = (cc)
judged-fault blocks entry opcode (End (Spells pieces)) st reads wanted = (cc)
judged-fault blocks entry opcode (Ask addr unit left next) st reads wanted = (cc)

-- or too long
pub judged-too_long : (blocks : ℕ) (entry : List ℕ) (opcode : IoOpcode) (d : Dialogue Reading) (reads : List ReadDone)
    → want_of d ≡ want.TooLong
    → in_transcript (and_then d (judge_reading blocks entry opcode)) [] reads ≡ Settled (Refuse (done_with InternalError))
unfolding and_then in_transcript
judged-too_long blocks entry opcode (End (Faulty code)) reads wanted = (cc)
judged-too_long blocks entry opcode (End TooLong) reads wanted = refl
judged-too_long blocks entry opcode (End (Spells pieces)) reads wanted = (cc)
judged-too_long blocks entry opcode (Ask addr unit left next) reads wanted = (cc)

-- or spells pieces
pub judged-done : (blocks : ℕ) (entry : List ℕ) (opcode : IoOpcode) (d : Dialogue Reading) (pieces : List Piece) (reads : List ReadDone)
    → d ≡ End (Spells pieces)
    → in_transcript (and_then d (judge_reading blocks entry opcode)) [] reads
    ≡ in_transcript (judge_reading blocks entry opcode (Spells pieces)) [] reads
unfolding and_then
judged-done blocks entry opcode d pieces reads is =
    ap (λ (x : Dialogue Reading). in_transcript (and_then x (judge_reading blocks entry opcode)) [] reads) is

-- which are mapped, of the transfer's length, and runs where it is a source
pub record AreSpelled (mapped : ℕ → Bool) (dest : Bool) (len : ℕ) (pieces : List Piece) : Type 0 where
  pub of_len : AreOfLen mapped len pieces
  pub runs : dest ≡ false → All IsRunPiece pieces

pub IsListAhead-done : (mapped : ℕ → Bool) (n : ℕ) (dest : Bool) (len : ℕ) (d : Dialogue Reading) (pieces : List Piece)
    → IsListAhead mapped n dest len d → d ≡ End (Spells pieces) → AreSpelled mapped dest len pieces
IsListAhead-done mapped n dest len d pieces ahead is =
    record {
      of_len = subst (EndsIn (OfPieces (AreOfLen mapped len))) is ahead.ends;
      runs = λ source. subst (EndsIn (OfPieces (λ ps. All IsRunPiece ps))) is (ahead.runs source);
    }
