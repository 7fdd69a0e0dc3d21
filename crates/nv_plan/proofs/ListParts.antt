-- A list that is read part by part
use Rattle.std.proofs.Common.{◌≡◌, ℕ, ◌-◌, ◌≤◌, All, true, length, List, [], sym, ap, subst, ◌∙◌}
use Rattle.nv_entry.specs.Opcode.{data_pointer}
use Rattle.nv_entry.specs.Submission.{prp1_of, prp2_of, psdt_of, sgl_of}
use Rattle.nv_entry.specs.declared.data_pointer.DataPointer.{DataPointer}
use Rattle.nv_entry.specs.declared.data_pointer.DataPointer.TheVariants.{Prp, Reserved, Sgl}
use Rattle.nv_judge.specs.declared.need.Need.{Need}
use Rattle.nv_mem.specs.GuestMap.{mapped}
use Rattle.nv_mem.specs.declared.piece.Piece.{Piece}
use Rattle.nv_mem.specs.declared.region.Region.{Region}
use Rattle.nv_model.specs.Dialogue.{Dialogue, End, and_then}
use Rattle.nv_model.specs.Judge.{has_buffer, judge_reading, sized}
use Rattle.nv_model.specs.Prp.{read_prp}
use Rattle.nv_model.specs.Reading.{Reading, Spells}
use Rattle.nv_model.specs.Sgl.{read_sgl}
use Rattle.nv_model.specs.Transcript.{fed, in_transcript}
use Rattle.nv_model.specs.Want.{want_of}
use Rattle.nv_model.specs.declared.want.Want.TheVariants as want
use Rattle.nv_model.proofs.AskedOften.{read_prp-often, read_sgl-often}
use Rattle.nv_model.proofs.Endings.{EndsIn, OfPieces}
use Rattle.nv_model.proofs.Spelled.{read_prp-sized}
use Rattle.nv_model.proofs.ListsFed.{AreSpelled, EndsIn-fed, IsListAhead, IsListAhead-done, IsListAhead-more, IsListAhead-start, judged-met}
use Rattle.nv_ns.specs.Extents.{blocks_in}
use Rattle.nv_world_model.specs.Geometry.{Guest, regions_of}
use Rattle.nv_plan.specs.Drafted.{GoesOn, IsKnown, IsListed}
use Rattle.nv_plan.specs.Listed.{list_of}
use Rattle.nv_plan.specs.Parts.{HasBytes}
use Rattle.nv_plan.specs.declared.draft.Buffered.{Buffered}
use Rattle.nv_plan.proofs.SomeBytes.{list-bytes}

-- the list of a command whose data pointer holds pages
pub pages-list : (regions : List Region) (limit : ℕ) (need : Need) (entry : List ℕ) (d : Dialogue Reading) (prp1 prp2 len : ℕ)
    → data_pointer (psdt_of entry) ≡ Prp
    → d ≡ and_then (read_prp (mapped regions) prp1 prp2 len) (λ reading. End (sized len reading))
    → prp1 ≡ prp1_of entry → prp2 ≡ prp2_of entry → len ≡ need.bytes
    → d ≡ list_of (data_pointer (psdt_of entry)) regions limit need entry
pages-list regions limit need entry d prp1 prp2 len pointer dialogue same_prp1 same_prp2 same_len =
    dialogue
    ∙ ap (λ (p : ℕ). and_then (read_prp (mapped regions) p prp2 len) (λ reading. End (sized len reading))) same_prp1
    ∙ ap (λ (p : ℕ). and_then (read_prp (mapped regions) (prp1_of entry) p len) (λ reading. End (sized len reading))) same_prp2
    ∙ ap (λ (n : ℕ). and_then (read_prp (mapped regions) (prp1_of entry) (prp2_of entry) n) (λ reading. End (sized n reading))) same_len
    ∙ ap (λ (p : DataPointer). list_of p regions limit need entry) (sym pointer)

-- where PRP1 and PRP2 name its end, no list is read
pub named-list : (regions : List Region) (limit : ℕ) (need : Need) (entry : List ℕ) (reading : Reading) (prp1 prp2 len : ℕ)
    → data_pointer (psdt_of entry) ≡ Prp
    → read_prp (mapped regions) prp1 prp2 len ≡ End reading
    → prp1 ≡ prp1_of entry → prp2 ≡ prp2_of entry → len ≡ need.bytes
    → End reading ≡ list_of (data_pointer (psdt_of entry)) regions limit need entry
named-list regions limit need entry reading prp1 prp2 len pointer ended same_prp1 same_prp2 same_len =
    pages-list regions limit need entry (End reading) prp1 prp2 len pointer (sym ended ∙ sym (read_prp-sized (mapped regions) prp1 prp2 len)) same_prp1 same_prp2 same_len

-- and of one whose holds a descriptor
pub descriptors-list : (regions : List Region) (limit : ℕ) (need : Need) (entry : List ℕ) (d : Dialogue Reading) (own : List ℕ) (len : ℕ)
    → data_pointer (psdt_of entry) ≡ Sgl
    → d ≡ and_then (read_sgl (mapped regions) need.dest limit own) (λ reading. End (sized len reading))
    → own ≡ sgl_of entry → len ≡ need.bytes
    → d ≡ list_of (data_pointer (psdt_of entry)) regions limit need entry
descriptors-list regions limit need entry d own len pointer dialogue same_own same_len =
    dialogue
    ∙ ap (λ (o : List ℕ). and_then (read_sgl (mapped regions) need.dest limit o) (λ reading. End (sized len reading))) same_own
    ∙ ap (λ (n : ℕ). and_then (read_sgl (mapped regions) need.dest limit (sgl_of entry)) (λ reading. End (sized n reading))) same_len
    ∙ ap (λ (p : DataPointer). list_of p regions limit need entry) (sym pointer)

-- a reserved data pointer is refused
pub reserved-list : (regions : List Region) (limit : ℕ) (need : Need) (entry : List ℕ)
    → data_pointer (psdt_of entry) ≡ Reserved
    → list_of Reserved regions limit need entry ≡ list_of (data_pointer (psdt_of entry)) regions limit need entry
reserved-list regions limit need entry pointer =
    ap (λ (p : DataPointer). list_of p regions limit need entry) (sym pointer)

-- ---- what is kept of a list

-- before its first part
listed-start : (given : Guest) (entry : List ℕ) (b : Buffered) (d : Dialogue Reading) (n : ℕ) (pointer : DataPointer)
    → IsKnown given entry b.opcode b.need → has_buffer b.opcode ≡ true
    → d ≡ list_of pointer (regions_of given) given.limit b.need entry
    → IsListAhead (mapped (regions_of given)) n b.need.dest b.need.bytes (list_of pointer (regions_of given) given.limit b.need entry)
    → IsListed given entry b d
listed-start given entry b d n pointer known buffer is ahead =
    record {
      known = known;
      buffer = buffer;
      often = n;
      ahead = subst (IsListAhead (mapped (regions_of given)) n b.need.dest b.need.bytes) (sym is) ahead;
      bytes = subst (EndsIn (OfPieces (λ pieces. All HasBytes pieces))) (sym is) (list-bytes pointer (mapped (regions_of given)) b.need.dest given.limit b.need.bytes entry);
    }

pub listed-pages : (given : Guest) (entry : List ℕ) (b : Buffered) (d : Dialogue Reading)
    → IsKnown given entry b.opcode b.need → has_buffer b.opcode ≡ true → data_pointer (psdt_of entry) ≡ Prp
    → d ≡ list_of (data_pointer (psdt_of entry)) (regions_of given) given.limit b.need entry → b.need.bytes ≤ 131072
    → IsListed given entry b d
listed-pages given entry b d known buffer pointer is most =
    listed-start given entry b d 1023 Prp known buffer (is ∙ ap (λ (p : DataPointer). list_of p (regions_of given) given.limit b.need entry) pointer)
    (IsListAhead-start (mapped (regions_of given)) 1023 given.limit Prp b.need.dest b.need.bytes entry (read_prp-often (mapped (regions_of given)) (prp1_of entry) (prp2_of entry) b.need.bytes most))

pub listed-descriptors : (given : Guest) (entry : List ℕ) (b : Buffered) (d : Dialogue Reading)
    → IsKnown given entry b.opcode b.need → has_buffer b.opcode ≡ true → data_pointer (psdt_of entry) ≡ Sgl
    → d ≡ list_of (data_pointer (psdt_of entry)) (regions_of given) given.limit b.need entry
    → IsListed given entry b d
listed-descriptors given entry b d known buffer pointer is =
    listed-start given entry b d (given.limit - 1) Sgl known buffer (is ∙ ap (λ (p : DataPointer). list_of p (regions_of given) given.limit b.need entry) pointer)
    (IsListAhead-start (mapped (regions_of given)) (given.limit - 1) given.limit Sgl b.need.dest b.need.bytes entry (read_sgl-often (mapped (regions_of given)) b.need.dest given.limit (sgl_of entry)))

-- and after each
pub listed-more : (given : Guest) (entry : List ℕ) (b : Buffered) (d : Dialogue Reading) (addr : ℕ) (bytes : List ℕ) (len : ℕ) (next : Dialogue Reading)
    → IsListed given entry b d → want_of d ≡ want.Read addr len → length bytes ≡ len → next ≡ fed d bytes
    → IsListed given entry b next
listed-more given entry b d addr bytes len next listed wanted many goes_on =
    record {
      known = listed.known;
      buffer = listed.buffer;
      often = listed.often;
      ahead =
          subst (IsListAhead (mapped (regions_of given)) listed.often b.need.dest b.need.bytes) (sym goes_on)
          (IsListAhead-more (mapped (regions_of given)) listed.often b.need.dest b.need.bytes d addr len bytes listed.ahead wanted many);
      bytes =
          subst (EndsIn (OfPieces (λ pieces. All HasBytes pieces))) (sym goes_on)
          (EndsIn-fed (OfPieces (λ pieces. All HasBytes pieces)) d bytes listed.bytes);
    }

-- reads in which the part comes first go on with it
pub listed-on : (given : Guest) (entry : List ℕ) (b : Buffered) (d : Dialogue Reading) (addr : ℕ) (bytes : List ℕ) (next : Dialogue Reading)
    → IsListed given entry b d → want_of d ≡ want.Read addr (length bytes) → next ≡ fed d bytes
    → GoesOn (and_then d (judge_reading (blocks_in given.namespace) entry b.opcode)) addr bytes (and_then next (judge_reading (blocks_in given.namespace) entry b.opcode))
listed-on given entry b d addr bytes next listed wanted goes_on = λ reads rest found.
    judged-met (mapped (regions_of given)) listed.often b.need.dest b.need.bytes (blocks_in given.namespace) entry b.opcode d addr (length bytes) reads bytes rest listed.ahead wanted found
    ∙ ap (λ (x : Dialogue Reading). in_transcript (and_then x (judge_reading (blocks_in given.namespace) entry b.opcode)) [] rest) (sym goes_on)

-- what is known of the pieces in the end
pub listed-done : (given : Guest) (entry : List ℕ) (b : Buffered) (d : Dialogue Reading) (pieces : List Piece)
    → IsListed given entry b d → d ≡ End (Spells pieces)
    → AreSpelled (mapped (regions_of given)) b.need.dest b.need.bytes pieces × All HasBytes pieces
listed-done given entry b d pieces listed is = (
  IsListAhead-done (mapped (regions_of given)) listed.often b.need.dest b.need.bytes d pieces listed.ahead is,
  subst (EndsIn (OfPieces (λ ps. All HasBytes ps))) is listed.bytes,
)
