-- What is read back of a physical entry's flags; and that a command's work has its FUA bit.
use Rattle.std.proofs.Common.{◌≡◌, ℕ, ◌+◌, ◌-◌, ◌*◌, length, ◌/◌, ◌%◌, ◌^◌, ◌<◌, Bool, true, false, ◌&&◌}
use Rattle.std.proofs.Common.{◌==◌, cond, List, [], ◌∷◌, ◌++◌, Option, Some, None, arith, refl, ap, ◌∙◌, mod-lt}
use Rattle.std.specs.Bool.{⊤}
use Rattle.std.specs.List.{list_all}
use Rattle.nv_entry.specs.Layout.{bits, bytes_of_dwords, dword, number_at}
use Rattle.nv_entry.specs.Opcode.{io_opcode}
use Rattle.nv_entry.specs.Status.{bit}
use Rattle.nv_entry.specs.StatusCode.{refused_with}
use Rattle.nv_entry.specs.Submission.{deallocate_of, opcode_of}
use Rattle.nv_entry.specs.declared.opcode.IoOpcode.{IoOpcode}
use Rattle.nv_entry.specs.declared.status_code.StatusCode.{StatusCode}
use Rattle.nv_entry.specs.declared.status_code.StatusCode.TheVariants.{LbaOutOfRange}
use Rattle.nv_mem.specs.declared.piece.Piece.{Piece}
use Rattle.nv_model.specs.Endings.{MayEndIn}
use Rattle.nv_model.specs.Judge.{Clear, Form, Go, Keep, Manage, Refuse, Transfer, Work, deallocates, field_refusal, form_has_blocks, form_of, has_blocks}
use Rattle.nv_model.specs.Judge.{has_buffer, is_fua, judge, judge_buffer, judge_by, judge_fields, judge_ranges, judge_reading, range_count_of, range_fits}
use Rattle.nv_model.specs.Judge.{ranges_in, read_buffer, read_source, work_of}
use Rattle.nv_model.specs.Reading.{Faulty, Reading, Spells, TooLong}
use Rattle.nv_model.proofs.AnyAnswers.{MayEndIn-has}
use Rattle.nv_model.proofs.Endings.{EndsIn, EndsIn-and_then, EndsIn-any, EndsIn-if}
use Rattle.nv_model.proofs.Judged.{IfGo}
use Rattle.nv_ns.specs.Extents.{Namespace}
use Rattle.nv_prp.specs.declared.prps.Prps.{Prps}
use Rattle.nv_world_model.specs.Area.{physical_entry, two_dwords}
use Rattle.nv_world_model.specs.ShareArea.{work_dwords}
use Rattle.nv_laws_sound.proofs.EntryFields.{dword-there}
use Rattle.nv_laws_sound.proofs.PlanSizes.{HasCount}

-- ---- the flags of an entry

-- dwords 11 and 12 of an entry that ends in zeros
last-dwords : (opcode tag : ℕ) (prps : Prps) (a b c : ℕ) → (dword (physical_entry opcode tag prps (a ∷ b ∷ c ∷ [])) 11 ≡ dword (bytes_of_dwords (b ∷ [])) 0)
    × (dword (physical_entry opcode tag prps (a ∷ b ∷ c ∷ [])) 12 ≡ dword (bytes_of_dwords (c ∷ [])) 0)
unfolding physical_entry dword number_at bytes_of_dwords
last-dwords opcode tag prps a b c = (refl, refl)

deallocate_of-below : (entry : List ℕ) → deallocate_of entry < 2
unfolding bits
deallocate_of-below entry = mod-lt (dword entry 11 / 2 ^ 2) (omega arith)

flag-part : (nlb : ℕ) (flag : Bool) → nlb < 65536 → bits (nlb + 2 ^ 30 * bit flag) 30 30 ≡ bit flag
unfolding bits
flag-part nlb true below = omega arith
flag-part nlb false below = omega arith

flag-fits : (nlb : ℕ) (flag : Bool) → nlb < 65536 → nlb + 2 ^ 30 * bit flag < 2 ^ 32
flag-fits nlb true below = omega arith
flag-fits nlb false below = omega arith

deallocate-part : (d : ℕ) → d < 2 → bits (4 * d) 2 2 ≡ d
unfolding bits
deallocate-part d below = omega arith

bit-set : (flag : Bool) → (bit flag == 1) ≡ flag
bit-set true = refl
bit-set false = refl

fua-back : (opcode tag : ℕ) (prps : Prps) (nlb at : ℕ) (flag : Bool) → nlb < 65536
    → is_fua (physical_entry opcode tag prps (two_dwords at ++ (nlb + 2 ^ 30 * bit flag) ∷ [])) ≡ flag
fua-back opcode tag prps nlb at flag below =
    ap {B = Bool} (λ d. bits d 30 30 == 1)
    ((last-dwords opcode tag prps (at % 2 ^ 32) (at / 2 ^ 32) (nlb + 2 ^ 30 * bit flag)).1
    ∙ dword-there ((nlb + 2 ^ 30 * bit flag) ∷ []) 0 _ refl (flag-fits nlb flag below))
    ∙ ap (λ n. n == 1) (flag-part nlb flag below) ∙ bit-set flag

-- a share of a command of that form that has blocks keeps them as the guest's does
pub form-fua : (form : Form) (opcode tag : ℕ) (prps : Prps) (ns : Namespace) (entry : List ℕ) (own : Work) → form_has_blocks form ≡ true
    → HasCount form own → is_fua (physical_entry opcode tag prps (work_dwords form ns entry own)) ≡ is_fua entry
form-fua (Transfer dest) opcode tag prps ns entry own has count =
    let some = count.0 in
    let few = count.1 in fua-back opcode tag prps (length own.units - 1) _ (is_fua entry) (omega (arith, some, few))
form-fua Clear opcode tag prps ns entry own has count =
    let some = count.0 in
    let few = count.1 in fua-back opcode tag prps (length own.units - 1) _ (is_fua entry) (omega (arith, some, few))
form-fua Manage opcode tag prps ns entry own has count = cc
form-fua Keep opcode tag prps ns entry own has count = cc

-- and one that names ranges deallocates them where the guest's does
pub manage-deallocates : (opcode tag : ℕ) (prps : Prps) (ns : Namespace) (entry : List ℕ) (own : Work)
    → deallocates (physical_entry opcode tag prps (work_dwords Manage ns entry own)) ≡ deallocates entry
manage-deallocates opcode tag prps ns entry own =
    let below = deallocate_of-below entry in
    ap {B = Bool} (λ d. bits d 2 2 == 1)
    ((last-dwords opcode tag prps (length own.ranges - 1) (4 * deallocate_of entry) 0).0
    ∙ dword-there ((4 * deallocate_of entry) ∷ []) 0 (4 * deallocate_of entry) refl (omega (arith, below)))
    ∙ ap (λ n. n == 1) (deallocate-part (deallocate_of entry) below)

-- ---- the flag of a work

abbrev HasFlag : (entry : List ℕ) → Work → Type 0
HasFlag entry work = work.fua ≡ (has_blocks work.opcode && is_fua entry)

ranges-flag : (blocks : ℕ) (opcode : IoOpcode) (entry : List ℕ) (pieces : List Piece) (ranges : List (List ℕ)) → IfGo (HasFlag entry) (judge_ranges blocks opcode entry pieces ranges)
ranges-flag blocks opcode entry pieces ranges =
    elim (list_all (range_fits blocks) ranges) as (λ b. IfGo (HasFlag entry) (cond b (Go (work_of blocks opcode entry pieces ranges)) (Refuse (refused_with LbaOutOfRange)))) [
      | true ↦ refl
      | false ↦ tt
    ]

buffer-flag : (form : Form) (blocks : ℕ) (opcode : IoOpcode) (entry : List ℕ) (pieces : List Piece)
    → EndsIn (IfGo (HasFlag entry)) (judge_buffer form blocks opcode entry pieces)
buffer-flag (Transfer dest) blocks opcode entry pieces = refl
buffer-flag Clear blocks opcode entry pieces = refl
buffer-flag Keep blocks opcode entry pieces = refl
buffer-flag Manage blocks opcode entry pieces =
    EndsIn-and_then (λ _. ⊤) (IfGo (HasFlag entry)) (read_source pieces []) _ (EndsIn-any (read_source pieces []))
    (λ bytes _. ranges-flag blocks opcode entry pieces (ranges_in (range_count_of entry) bytes))

reading-flag : (blocks : ℕ) (entry : List ℕ) (opcode : IoOpcode) (reading : Reading) → EndsIn (IfGo (HasFlag entry)) (judge_reading blocks entry opcode reading)
reading-flag blocks entry opcode (Faulty code) = tt
reading-flag blocks entry opcode TooLong = tt
reading-flag blocks entry opcode (Spells pieces) = buffer-flag (form_of opcode) blocks opcode entry pieces

by-flag : (opcode : Option IoOpcode) (mapped : ℕ → Bool) (limit blocks : ℕ) (entry : List ℕ) → EndsIn (IfGo (HasFlag entry)) (judge_by opcode mapped limit blocks entry)
by-flag None mapped limit blocks entry = tt
by-flag (Some opcode) mapped limit blocks entry =
    EndsIn-if (IfGo (HasFlag entry)) (has_buffer opcode) _ _
    (λ buffer. EndsIn-and_then (λ _. ⊤) (IfGo (HasFlag entry)) (read_buffer mapped limit opcode entry) (judge_reading blocks entry opcode)
    (EndsIn-any (read_buffer mapped limit opcode entry)) (λ reading _. reading-flag blocks entry opcode reading))
    (λ none. buffer-flag (form_of opcode) blocks opcode entry [])

fields-flag : (refusal : Option StatusCode) (mapped : ℕ → Bool) (limit blocks : ℕ) (entry : List ℕ)
    → EndsIn (IfGo (HasFlag entry)) (judge_fields refusal mapped limit blocks entry)
fields-flag (Some code) mapped limit blocks entry = tt
fields-flag None mapped limit blocks entry = by-flag (io_opcode (opcode_of entry)) mapped limit blocks entry

-- whatever answers, a command's blocks are kept where its FUA bit is set
pub end-fua : (mapped : ℕ → Bool) (limit blocks : ℕ) (entry : List ℕ) (work : Work) → MayEndIn (judge mapped limit blocks entry) (Go work)
    → work.fua ≡ (has_blocks work.opcode && is_fua entry)
unfolding judge
end-fua mapped limit blocks entry work may =
    MayEndIn-has (IfGo (HasFlag entry)) (judge mapped limit blocks entry) (Go work)
    (fields-flag (field_refusal blocks entry) mapped limit blocks entry) may
