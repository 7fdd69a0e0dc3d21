-- What the drive may ask for of a command, and the source that it finds: it is the guest's, in memory as it is at any time.
use Rattle.std.proofs.Common.{◌≡◌, ℕ, zero, suc, ◌+◌, ◌<◌, Bool, true, false, cond, ◌==◌, List, [], ◌∷◌, ◌++◌, map, All}
use Rattle.std.proofs.Common.{Option, Some, None, arith, refl, sym, ap, ◌∙◌, subst}
use Rattle.std.proofs.lemmas.List.Elements.{All-append, All-cons, All-head, All-nil, All-tail}
use Rattle.std.specs.List.{range_with_len}
use Rattle.nv_entry.specs.Opcode.{data_pointer, io_opcode}
use Rattle.nv_entry.specs.Submission.{opcode_of, prp1_of, prp2_of, psdt_of}
use Rattle.nv_entry.specs.declared.opcode.IoOpcode.{IoOpcode}
use Rattle.nv_entry.specs.declared.status_code.StatusCode.{StatusCode}
use Rattle.nv_entry.specs.declared.status_code.StatusCode.TheVariants.{SglLengthInvalid}
use Rattle.nv_fine.proofs.Asks.{asked-and_then}
use Rattle.nv_mem.specs.Places.{At, Place, addresses, places_of, places_of_piece, total_len}
use Rattle.nv_mem.specs.declared.piece.Piece.{Piece}
use Rattle.nv_mem.specs.declared.piece.Piece.TheVariants as piece
use Rattle.nv_model.proofs.DialogueLemmas.{in_memory-and_then}
use Rattle.nv_model.specs.Dialogue.{Dialogue, End, and_then, asked, in_memory}
use Rattle.nv_model.specs.Judge.{Clear, Form, Keep, Manage, Transfer, field_refusal, form_has_buffer, form_of, has_buffer, is_read, judge, judge_buffer, judge_by}
use Rattle.nv_model.specs.Judge.{judge_fields, judge_ranges, judge_reading, range_count_of, ranges_in, read_buffer, read_by, read_source, sized, transfer_len}
use Rattle.nv_model.specs.Memory.{bytes_from}
use Rattle.nv_model.specs.Prp.{read_prp}
use Rattle.nv_model.specs.Reading.{Faulty, Reading, Spells, TooLong}

-- ---- lists

pub all-front : {A : Type 0} (P : A → Type 0) (xs ys : List A) → All P (xs ++ ys) → All P xs
all-front P [] ys each = All-nil P
all-front P (x ∷ xs) ys each = All-cons P x xs (All-head P x (xs ++ ys) each) (all-front P xs ys (All-tail P x (xs ++ ys) each))

pub all-behind : {A : Type 0} (P : A → Type 0) (xs ys : List A) → All P (xs ++ ys) → All P ys
all-behind P [] ys each = each
all-behind P (x ∷ xs) ys each = all-behind P xs ys (All-tail P x (xs ++ ys) each)

-- addresses in a row
row-each : (N : Place → Type 0) (addr len i : ℕ) → All N (map At (range_with_len addr len)) → i < len → N (At (addr + i))
row-each N addr zero i each below = absurd (omega (arith, below))
row-each N addr (suc len) zero each below =
    let here : addr ≡ addr + 0 = omega arith in
    subst (λ (n : ℕ). N (At n)) here (All-head N (At addr) (map At (range_with_len (addr + 1) len)) each)
row-each N addr (suc len) (suc i) each below =
    let next : addr + 1 + i ≡ addr + suc i = omega arith in
    subst (λ (n : ℕ). N (At n)) next (row-each N (addr + 1) len i (All-tail N (At addr) (map At (range_with_len (addr + 1) len)) each) (omega (arith, below)))

-- ---- questions

module _ (Q : ℕ → Type 0) (host : ℕ → ℕ) where
  -- each byte that is asked for has this
  abbrev pub Asks : ℕ × ℕ → Type 0
  Asks s = (i : ℕ) → i < s.1 → Q (s.0 + i)

  -- those of a source are its places
  pub asked-source : (N : Place → Type 0) → ((at : ℕ) → N (At at) → Q at) → (pieces : List Piece) (bytes : List ℕ) → All N (places_of pieces)
      → All Asks (asked host (read_source pieces bytes))
  unfolding asked read_source addresses
  asked-source N has [] bytes each = All-nil Asks
  asked-source N has (piece.Run addr len ∷ pieces) bytes each =
      All-cons Asks (addr, len) _ (λ i below. has (addr + i) (row-each N addr len i (all-front N (map At (range_with_len addr len)) (places_of pieces) each) below))
      (asked-source N has pieces (bytes ++ bytes_from host addr len) (all-behind N (map At (range_with_len addr len)) (places_of pieces) each))
  asked-source N has (piece.Bucket len ∷ pieces) bytes each =
      asked-source N has pieces bytes (all-behind N (places_of_piece (piece.Bucket len)) (places_of pieces) each)

  module _ (limit blocks : ℕ) (entry : List ℕ) where
    abbrev len : IoOpcode → ℕ
    len opcode = transfer_len opcode entry

    abbrev prps : IoOpcode → Dialogue Reading
    prps opcode = read_prp (λ _. true) (prp1_of entry) (prp2_of entry) (transfer_len opcode entry)

    asked-buffer : (form : Form) (opcode : IoOpcode) (pieces : List Piece) → (form ≡ Manage → All Asks (asked host (read_source pieces [])))
        → All Asks (asked host (judge_buffer form blocks opcode entry pieces))
    unfolding asked
    asked-buffer (Transfer dest) opcode pieces source = All-nil Asks
    asked-buffer Clear opcode pieces source = All-nil Asks
    asked-buffer Keep opcode pieces source = All-nil Asks
    asked-buffer Manage opcode pieces source =
        subst (All Asks)
        (sym (asked-and_then host (read_source pieces []) (λ bytes. End (judge_ranges blocks opcode entry pieces (ranges_in (range_count_of entry) bytes)))))
        (All-append Asks (asked host (read_source pieces [])) [] (source refl) (All-nil Asks))

    asked-reading : (opcode : IoOpcode) (r : Reading)
        → ((pieces : List Piece) → r ≡ Spells pieces → form_of opcode ≡ Manage → All Asks (asked host (read_source pieces [])))
        → All Asks (asked host (judge_reading blocks entry opcode (sized (transfer_len opcode entry) r)))
    unfolding asked
    asked-reading opcode (Faulty code) source = All-nil Asks
    asked-reading opcode TooLong source = All-nil Asks
    asked-reading opcode (Spells pieces) source = by (total_len pieces == transfer_len opcode entry)
      where
        by : (b : Bool) → All Asks (asked host (judge_reading blocks entry opcode (cond b (Spells pieces) (Faulty SglLengthInvalid))))
        by false = All-nil Asks
        by true = asked-buffer (form_of opcode) opcode pieces (source pieces refl)

    module _ (prp : psdt_of entry ≡ 0) where
      -- what is read first is the list
      buffer-asked : (opcode : IoOpcode) → asked host (read_buffer (λ _. true) limit opcode entry) ≡ asked host (prps opcode) ++ []
      unfolding asked
      buffer-asked opcode =
          asked-and_then host (read_by (data_pointer (psdt_of entry)) (λ _. true) limit (is_read opcode) (len opcode) entry) (λ reading. End (sized (len opcode) reading))
          ∙ ap (λ (n : ℕ). asked host (read_by (data_pointer n) (λ _. true) limit (is_read opcode) (len opcode) entry) ++ []) prp

      buffer-read : (opcode : IoOpcode) → in_memory host (read_buffer (λ _. true) limit opcode entry) ≡ sized (len opcode) (in_memory host (prps opcode))
      unfolding in_memory
      buffer-read opcode =
          in_memory-and_then host (read_by (data_pointer (psdt_of entry)) (λ _. true) limit (is_read opcode) (len opcode) entry) (λ reading. End (sized (len opcode) reading))
          ∙ ap (λ (n : ℕ). sized (len opcode) (in_memory host (read_by (data_pointer n) (λ _. true) limit (is_read opcode) (len opcode) entry))) prp

      -- so of a verdict the list and the source of ranges are asked for
      pub asked-verdict : ((opcode : IoOpcode) → io_opcode (opcode_of entry) ≡ Some opcode → has_buffer opcode ≡ true → All Asks (asked host (prps opcode)))
          → ((opcode : IoOpcode) → io_opcode (opcode_of entry) ≡ Some opcode → has_buffer opcode ≡ true → (pieces : List Piece)
          → in_memory host (prps opcode) ≡ Spells pieces → All Asks (asked host (read_source pieces [])))
          → All Asks (asked host (judge (λ _. true) limit blocks entry))
      unfolding judge asked
      asked-verdict lists sources = by (field_refusal blocks entry)
        where
          plain : (form : Form) (opcode : IoOpcode) → form_has_buffer form ≡ false → All Asks (asked host (judge_buffer form blocks opcode entry []))
          plain (Transfer dest) opcode none = cc
          plain Clear opcode none = All-nil Asks
          plain Manage opcode none = cc
          plain Keep opcode none = All-nil Asks

          opcodes : (o : Option IoOpcode) → io_opcode (opcode_of entry) ≡ o → All Asks (asked host (judge_by o (λ _. true) limit blocks entry))
          opcodes None is = All-nil Asks
          opcodes (Some opcode) is = one (has_buffer opcode) refl
            where
              one : (b : Bool) → has_buffer opcode ≡ b
                  → All Asks (asked host (cond b (and_then (read_buffer (λ _. true) limit opcode entry) (judge_reading blocks entry opcode))
                  (judge_buffer (form_of opcode) blocks opcode entry [])))
              one false none = plain (form_of opcode) opcode none
              one true has =
                  subst (All Asks) (sym (asked-and_then host (read_buffer (λ _. true) limit opcode entry) (judge_reading blocks entry opcode)))
                  (All-append Asks (asked host (read_buffer (λ _. true) limit opcode entry))
                  (asked host (judge_reading blocks entry opcode (in_memory host (read_buffer (λ _. true) limit opcode entry))))
                  (subst (All Asks) (sym (buffer-asked opcode)) (All-append Asks (asked host (prps opcode)) [] (lists opcode is has) (All-nil Asks)))
                  (subst (λ (r : Reading). All Asks (asked host (judge_reading blocks entry opcode r))) (sym (buffer-read opcode))
                  (asked-reading opcode (in_memory host (prps opcode)) (λ pieces spells manages. sources opcode is has pieces spells))))

          by : (o : Option StatusCode) → All Asks (asked host (judge_fields o (λ _. true) limit blocks entry))
          by (Some code) = All-nil Asks
          by None = opcodes (io_opcode (opcode_of entry)) refl
