-- What the drive knows of a list that it has read: it is what any memory says that has the bytes which were read.
use Rattle.std.proofs.Common.{◌≡◌, ℕ, ◌+◌, ◌<◌, Bool, true, false, cond, ◌==◌, List, [], All, Option, Some, None, is_some}
use Rattle.std.proofs.Common.{arith, refl, sym, ap, ◌∙◌, subst}
use Rattle.std.proofs.lemmas.Bool.{ne_eqb}
use Rattle.std.proofs.lemmas.List.Elements.{All-nil}
use Rattle.std.specs.List.{list_all}
use Rattle.std.specs.Prelude.{unwrap_or}
use Rattle.nv_entry.specs.Opcode.{data_pointer, io_opcode}
use Rattle.nv_entry.specs.StatusCode.{refused_with}
use Rattle.nv_entry.specs.Submission.{opcode_of, prp1_of, prp2_of, psdt_of}
use Rattle.nv_entry.specs.declared.opcode.IoOpcode.{IoOpcode}
use Rattle.nv_entry.specs.declared.status_code.StatusCode.{StatusCode}
use Rattle.nv_entry.specs.declared.status_code.StatusCode.TheVariants.{LbaOutOfRange, SglLengthInvalid}
use Rattle.nv_fine.specs.Drive.{Buffer, byte_of, has, known}
use Rattle.nv_laws_sound.proofs.Lists.{some-same}
use Rattle.nv_mem.specs.Places.{Place, places_of, total_len}
use Rattle.nv_mem.specs.declared.piece.Piece.{Piece}
use Rattle.nv_model.proofs.Agreeing.{bytes_from-agree}
use Rattle.nv_model.proofs.DialogueLemmas.{in_memory-and_then}
use Rattle.nv_model.proofs.Judged.{everywhere-at}
use Rattle.nv_model.specs.Dialogue.{Ask, Dialogue, End, and_then, in_memory}
use Rattle.nv_model.specs.Judge.{Clear, Form, Go, Keep, Manage, Refuse, Transfer, Work, field_refusal, form_has_buffer, form_of, form_transfer_len, has_buffer}
use Rattle.nv_model.specs.Judge.{is_read, judge, judge_buffer, judge_by, judge_fields, judge_ranges, judge_reading, range_count_of, range_fits, ranges_in, read_buffer, read_by}
use Rattle.nv_model.specs.Judge.{read_source, sized, transfer_len, work_of}
use Rattle.nv_model.specs.Memory.{bytes_from}
use Rattle.nv_model.specs.Prp.{read_prp}
use Rattle.nv_model.specs.Reading.{Faulty, Reading, Spells, TooLong}
use Rattle.nv_world_model.specs.Device.{held_of, host_pieces, pieces_spelled}

-- ---- bytes that were read

-- a memory has the bytes of a buffer
abbrev pub Has : Buffer → (host : ℕ → ℕ) → Type 0
Has buffer host = (at byte : ℕ) → buffer at ≡ Some byte → host at ≡ byte

byte-is : (o : Option ℕ) (value : ℕ) → is_some o ≡ true → ((byte : ℕ) → o ≡ Some byte → value ≡ byte) → unwrap_or o 0 ≡ value
byte-is None value there each = cc
byte-is (Some byte) value there each = sym (each byte refl)

pub bytes-are : (buffer : Buffer) (host : ℕ → ℕ) (addr len : ℕ) → Has buffer host → has buffer addr len ≡ true
    → bytes_from (byte_of buffer) addr len ≡ bytes_from host addr len
bytes-are buffer host addr len is there =
    bytes_from-agree (byte_of buffer) host addr len
    (λ i below. byte-is (buffer (addr + i)) (host (addr + i)) (everywhere-at (λ a. is_some (buffer a)) addr len i there below) (is (addr + i)))

-- so what is known by the buffer is what the memory says
pub known-in : {A : Type 0} (buffer : Buffer) (host : ℕ → ℕ) (d : Dialogue A) (value : A) → Has buffer host → known buffer d ≡ Some value
    → in_memory host d ≡ value
unfolding known in_memory
known-in buffer host (End end) value is told = some-same end value told
known-in buffer host (Ask addr unit left next) value is told =
    by (has buffer addr unit) refl (λ more. known-in buffer host (next (bytes_from (byte_of buffer) addr unit)) value is more) told
  where
    by : (b : Bool) → has buffer addr unit ≡ b
        → (known buffer (next (bytes_from (byte_of buffer) addr unit)) ≡ Some value → in_memory host (next (bytes_from (byte_of buffer) addr unit)) ≡ value)
        → cond b (known buffer (next (bytes_from (byte_of buffer) addr unit))) None ≡ Some value → in_memory host (next (bytes_from host addr unit)) ≡ value
    by false none rest more = cc
    by true there rest more =
        ap (λ (bytes : List ℕ). in_memory host (next bytes)) (sym (bytes-are buffer host addr unit is there)) ∙ rest more

-- ---- the verdict on a command with PRPs

go-same : (v w : Work) → Go v ≡ Go w → v ≡ w
go-same v w is = cc

module _ (P : Place → Type 0) (host : ℕ → ℕ) (limit blocks : ℕ) (entry : List ℕ) (work : Work) where
  -- what goes with pieces has them
  ranges-pieces : (opcode : IoOpcode) (pieces : List Piece) (ranges : List (List ℕ)) → judge_ranges blocks opcode entry pieces ranges ≡ Go work → work.pieces ≡ pieces
  ranges-pieces opcode pieces ranges is = by (list_all (range_fits blocks) ranges) is
    where
      by : (b : Bool) → cond b (Go (work_of blocks opcode entry pieces ranges)) (Refuse (refused_with LbaOutOfRange)) ≡ Go work → work.pieces ≡ pieces
      by true go = ap (λ (v : Work). v.pieces) (sym (go-same (work_of blocks opcode entry pieces ranges) work go))
      by false go = cc

  buffer-pieces : (form : Form) (opcode : IoOpcode) (pieces : List Piece) → in_memory host (judge_buffer form blocks opcode entry pieces) ≡ Go work
      → work.pieces ≡ pieces
  unfolding in_memory
  buffer-pieces (Transfer dest) opcode pieces is = ap (λ (v : Work). v.pieces) (sym (go-same (work_of blocks opcode entry pieces []) work is))
  buffer-pieces Clear opcode pieces is = ap (λ (v : Work). v.pieces) (sym (go-same (work_of blocks opcode entry pieces []) work is))
  buffer-pieces Keep opcode pieces is = ap (λ (v : Work). v.pieces) (sym (go-same (work_of blocks opcode entry pieces []) work is))
  buffer-pieces Manage opcode pieces is =
      ranges-pieces opcode pieces (ranges_in (range_count_of entry) (in_memory host (read_source pieces [])))
      (sym (in_memory-and_then host (read_source pieces [])
      (λ bytes. End (judge_ranges blocks opcode entry pieces (ranges_in (range_count_of entry) bytes)))) ∙ is)

  -- a command with a buffer transfers something
  pub some-transfer : (form : Form) → form_has_buffer form ≡ true → 0 < form_transfer_len form entry
  some-transfer (Transfer dest) has_it = omega arith
  some-transfer Clear has_it = cc
  some-transfer Manage has_it = omega arith
  some-transfer Keep has_it = cc

  module _ (opcode : IoOpcode) where
    abbrev len : ℕ
    len = transfer_len opcode entry

    read : (r : Reading) → (in_memory host (judge_reading blocks entry opcode (sized len r)) ≡ Go work) → has_buffer opcode ≡ true
        → All P (places_of (cond (len == 0) [] (pieces_spelled r))) → All P (places_of work.pieces)
    unfolding in_memory
    read (Faulty code) is buffer each = cc
    read TooLong is buffer each = cc
    read (Spells pieces) is buffer each = by (total_len pieces == len) is
      where
        some : (len == 0) ≡ false
        some = ne_eqb len 0 (λ none. (let more = some-transfer (form_of opcode) buffer in absurd (omega (arith, none, more))))

        by : (b : Bool) → in_memory host (judge_reading blocks entry opcode (cond b (Spells pieces) (Faulty SglLengthInvalid))) ≡ Go work → All P (places_of work.pieces)
        by false go = cc
        by true go =
            subst (λ (ps : List Piece). All P (places_of ps)) (sym (buffer-pieces (form_of opcode) opcode pieces go))
            (subst (λ (b : Bool). All P (places_of (cond b [] pieces))) some each)

    by-opcode : psdt_of entry ≡ 0 → in_memory host (judge_by (Some opcode) (λ _. true) limit blocks entry) ≡ Go work
        → All P (places_of (host_pieces (Some opcode) entry host)) → All P (places_of work.pieces)
    unfolding in_memory
    by-opcode prp is each = by (has_buffer opcode) refl is
      where
        prps : Dialogue Reading
        prps = read_prp (λ _. true) (prp1_of entry) (prp2_of entry) len

        reading-is : in_memory host (read_buffer (λ _. true) limit opcode entry) ≡ sized len (in_memory host prps)
        reading-is =
            in_memory-and_then host (read_by (data_pointer (psdt_of entry)) (λ _. true) limit (is_read opcode) len entry) (λ reading. End (sized len reading))
            ∙ ap (λ (n : ℕ). sized len (in_memory host (read_by (data_pointer n) (λ _. true) limit (is_read opcode) len entry))) prp

        by : (b : Bool) → has_buffer opcode ≡ b
            → in_memory host (cond b (and_then (read_buffer (λ _. true) limit opcode entry) (judge_reading blocks entry opcode)) (judge_buffer (form_of opcode) blocks opcode entry []))
            ≡ Go work → All P (places_of work.pieces)
        by true buffer go =
            read (in_memory host prps)
            (sym (in_memory-and_then host (read_buffer (λ _. true) limit opcode entry) (judge_reading blocks entry opcode)
            ∙ ap (λ (r : Reading). in_memory host (judge_reading blocks entry opcode r)) reading-is) ∙ go) buffer each
        by false none go =
            subst (λ (ps : List Piece). All P (places_of ps)) (sym (buffer-pieces (form_of opcode) opcode [] go)) (All-nil P)

  pub verdict-places : psdt_of entry ≡ 0 → in_memory host (judge (λ _. true) limit blocks entry) ≡ Go work
      → All P (places_of (held_of entry host).pieces) → All P (places_of work.pieces)
  unfolding judge held_of in_memory
  verdict-places prp is each = by (field_refusal blocks entry) is
    where
      opcodes : (o : Option IoOpcode) → in_memory host (judge_by o (λ _. true) limit blocks entry) ≡ Go work
          → All P (places_of (host_pieces o entry host)) → All P (places_of work.pieces)
      opcodes None go places = cc
      opcodes (Some opcode) go places = by-opcode opcode prp go places

      by : (o : Option StatusCode) → in_memory host (judge_fields o (λ _. true) limit blocks entry) ≡ Go work → All P (places_of work.pieces)
      by (Some code) go = cc
      by None go = opcodes (io_opcode (opcode_of entry)) go each
