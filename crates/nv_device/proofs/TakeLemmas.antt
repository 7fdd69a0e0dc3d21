-- What the device keeps of an entry that it takes
use Rattle.std.proofs.Common.{◌≡◌, ℕ, zero, suc, ◌+◌, ◌<◌, ◌≤◌, ◌==◌, Bool, true, false, cond, List}
use Rattle.std.proofs.Common.{[], length, Option, Some, None, Result, Ok, Err, refl, sym, ap, subst, ◌∙◌, arith, get_or}
use Rattle.std.specs.Prelude.{All, IfOk, IfSome, slice_set}
use Rattle.std.specs.List.{range_with_len}
use Rattle.std.proofs.lemmas.Bool.Decides.{nat_tests}
use Rattle.std.proofs.lemmas.List.Elements.{All-cons, All-nil, All-set}
use Rattle.nv_entry.specs.Opcode.{io_opcode}
use Rattle.nv_entry.specs.Submission.{opcode_of, prp1_of, prp2_of}
use Rattle.nv_entry.specs.declared.opcode.IoOpcode.{IoOpcode}
use Rattle.nv_mem.specs.Places.{places_of}
use Rattle.nv_mem.specs.declared.piece.Piece.{Piece}
use Rattle.nv_mem.proofs.PlaceLists.{length-places_of}
use Rattle.nv_model.specs.Judge.{transfer_len}
use Rattle.nv_model.specs.Prp.{read_prp}
use Rattle.nv_model.specs.Reading.{Spells}
use Rattle.nv_model.proofs.Judged.{pieces-ends}
use Rattle.nv_model.proofs.Spelled.{AreOfLen, read_prp-of_len}
use Rattle.nv_model.specs.Memory.{byte_in}
use Rattle.nv_world_model.specs.Device.{DeviceLane, Held, held_of, host_pieces, pieces_named, pieces_spelled, unit_count}
use Rattle.nv_device.specs.Pages.{host_reading, spells}
use Rattle.nv_device.specs.Physical.{AreHeld, IsHeld, len_of}
use Rattle.nv_device.specs.Taking.{IsTakeable}
use Rattle.nv_device.proofs.PageLemmas.{host_reading-anywhere, spelled-is}

-- what follows on success
pub if_ok : {A E : Type 0} (r : Result A E) (P Q : A → Type 0) → ((x : A) → P x → Q x) → IfOk r P → IfOk r Q
if_ok (Ok x) P Q follows p = follows x p
if_ok (Err e) P Q follows p = p

-- ---- where its bytes lie

-- what a transfer of some bytes names
some-named : (opcode : IoOpcode) (entry : List ℕ) (host : ℕ → ℕ) → 0 < transfer_len opcode entry
    → host_pieces (Some opcode) entry host ≡ pieces_named (transfer_len opcode entry) entry host
some-named opcode entry host some =
    let other : transfer_len opcode entry == 0 ≡ false = grind (arith, nat_tests) in
    ap (λ (b : Bool). cond b [] (pieces_named (transfer_len opcode entry) entry host)) other

-- what PRP1, PRP2 and the list spell
pub places-named : (o : Option IoOpcode) (entry host : List ℕ) (places : List Piece) → 0 < len_of o entry
    → host_reading host (prp1_of entry) (prp2_of entry) (len_of o entry) ≡ Spells places → places ≡ host_pieces o entry (byte_in host)
places-named None entry host places some spelt = absurd (omega arith)
places-named (Some opcode) entry host places some spelt =
    sym (some-named opcode entry (byte_in host) some
    ∙ ap pieces_spelled (host_reading-anywhere host (prp1_of entry) (prp2_of entry) (transfer_len opcode entry) places spelt))

-- a command that is taken, from its parts
pub held-made : (entry host : List ℕ) (places : List Piece) (left : List ℕ)
    → places ≡ host_pieces (io_opcode (opcode_of entry)) entry (byte_in host)
    → left ≡ range_with_len 0 (unit_count (io_opcode (opcode_of entry)) entry)
    → ◌≡◌ {A = Held} (record { entry = entry; pieces = places; left = left; differed = false }) (held_of entry (byte_in host))
unfolding held_of
held-made entry host places left named whole =
    ap (λ (ps : List Piece). let h : Held = record { entry = entry; pieces = ps; left = left; differed = false } in h) named
    ∙ ap (λ (ks : List ℕ). let h : Held = record { entry = entry; pieces = host_pieces (io_opcode (opcode_of entry)) entry (byte_in host); left = ks; differed = false } in h) whole

-- ---- what is kept of it

-- its places are as many as it transfers bytes
places-of_len : (o : Option IoOpcode) (entry host : List ℕ)
    → (0 < len_of o entry → spells (host_reading host (prp1_of entry) (prp2_of entry) (len_of o entry)) ≡ true)
    → length (places_of (host_pieces o entry (byte_in host))) ≡ len_of o entry
places-of_len None entry host spelled = refl
places-of_len (Some opcode) entry host spelled = by_len (transfer_len opcode entry) refl
  where
    by_len : (len : ℕ) → transfer_len opcode entry ≡ len → length (places_of (host_pieces (Some opcode) entry (byte_in host))) ≡ transfer_len opcode entry
    by_len zero is = ap (λ (b : Bool). length (places_of (cond b [] (pieces_named (transfer_len opcode entry) entry (byte_in host))))) (ap (λ (n : ℕ). n == 0) is) ∙ sym is
    by_len (suc len) is =
        (let some : 0 < transfer_len opcode entry = omega arith in
        let spelt = spelled-is (host_reading host (prp1_of entry) (prp2_of entry) (transfer_len opcode entry)) (spelled some) in
        let read = host_reading-anywhere host (prp1_of entry) (prp2_of entry) (transfer_len opcode entry) spelt.0 spelt.1 in
        ap (λ (ps : List Piece). length (places_of ps)) (sym (places-named (Some opcode) entry host spelt.0 some spelt.1))
        ∙ length-places_of spelt.0
        ∙ (pieces-ends (AreOfLen (λ _. true) (transfer_len opcode entry)) (byte_in host) (read_prp (λ _. true) (prp1_of entry) (prp2_of entry) (transfer_len opcode entry)) spelt.0
        (read_prp-of_len (λ _. true) (prp1_of entry) (prp2_of entry) (transfer_len opcode entry)) read).total)

-- numbers from one on are below their end
range-below : (from n end : ℕ) → from + n ≤ end → All (λ k. k < end) (range_with_len from n)
range-below from zero end within = All-nil (λ (k : ℕ). k < end)
range-below from (suc n) end within =
    All-cons (λ (k : ℕ). k < end) from (range_with_len (from + 1) n) (omega arith) (range-below (from + 1) n end (omega arith))

-- so what the device keeps of its commands holds of it
pub taken-held : (blocks : ℕ) (host : List ℕ) (held : Option Held) (entry : List ℕ) → IsTakeable blocks host held entry
    → IsHeld blocks (held_of entry (byte_in host))
unfolding held_of
taken-held blocks host held entry takeable =
    record {
      blocks = takeable.blocks;
      places = places-of_len (io_opcode (opcode_of entry)) entry host takeable.bytes;
      units = range-below 0 (unit_count (io_opcode (opcode_of entry)) entry) (unit_count (io_opcode (opcode_of entry)) entry) (omega arith);
    }

-- and of the lanes with one command more
pub lanes-held : (blocks : ℕ) (lanes : List DeviceLane) (i : ℕ) (d new : DeviceLane) (slot : ℕ) (h : Option Held)
    → All (AreHeld blocks) lanes → i < length lanes → d ≡ get_or lanes i d → new.held ≡ slice_set d.held slot h → IfSome h (IsHeld blocks)
    → All (AreHeld blocks) (slice_set lanes i new)
lanes-held blocks lanes i d new slot h all within is changed holds =
    let P : DeviceLane → Type 0 = AreHeld blocks in
    let Q : List (Option Held) → Type 0 = λ os. All (λ o. IfSome o (IsHeld blocks)) os in
    let before : AreHeld blocks d = subst P (sym is) (all i d within) in
    All-set (AreHeld blocks) lanes i new (subst Q (sym changed) (All-set (λ (o : Option Held). IfSome o (IsHeld blocks)) d.held slot h holds before)) all

-- readings of the same entries
pub same-reading : (host : List ℕ) (prp1 first prp2 second len size : ℕ) → prp1 ≡ first → prp2 ≡ second → len ≡ size
    → host_reading host prp1 prp2 len ≡ host_reading host first second size
same-reading host prp1 first prp2 second len size firsts seconds sizes =
    ap (λ (a : ℕ). host_reading host a prp2 len) firsts ∙ ap (λ (b : ℕ). host_reading host first b len) seconds ∙ ap (host_reading host first second) sizes
