-- What the reading of a list in memory comes to
use Rattle.std.proofs.Common.{◌≡◌, ℕ, ◌-◌, ◌+◌, ◌≤◌, Bool, List, length, Some, arith, refl, sym, ap, subst, ◌∙◌}
use Rattle.nv_entry.specs.Status.{StatusField}
use Rattle.nv_entry.specs.StatusCode.{done_with, refused_with}
use Rattle.nv_entry.specs.Submission.{prp1_of, prp2_of, psdt_of, sgl_of}
use Rattle.nv_entry.specs.Opcode.{data_pointer}
use Rattle.nv_entry.specs.declared.data_pointer.DataPointer.{DataPointer}
use Rattle.nv_entry.specs.declared.data_pointer.DataPointer.TheVariants.{Prp, Reserved, Sgl}
use Rattle.nv_entry.specs.declared.status_code.StatusCode.TheVariants.{InternalError, InvalidField}
use Rattle.nv_judge.specs.declared.need.Need.{Need}
use Rattle.nv_mem.specs.GuestMap.{Mapping, mapped}
use Rattle.nv_mem.specs.declared.piece.Piece.{Piece}
use Rattle.nv_model.specs.Dialogue.{Dialogue, End, Ask, and_then, in_memory}
use Rattle.nv_model.specs.Judge.{sized}
use Rattle.nv_model.specs.Memory.{byte_in, bytes_from}
use Rattle.nv_model.specs.Reading.{Reading, Faulty, TooLong, Spells}
use Rattle.nv_model.specs.Prp.{read_prp}
use Rattle.nv_model.specs.Sgl.{read_sgl}
use Rattle.nv_model.proofs.Shown.{length-bytes_from}
use Rattle.nv_model.proofs.Spelled.{read_prp-sized}
use Rattle.nv_model.specs.Transcript.{fed}
use Rattle.nv_model.specs.Want.{want_of}
use Rattle.nv_model.specs.declared.want.Want.TheVariants as want
use Rattle.nv_flat.specs.Flat.{identity_map}
use Rattle.nv_disk.specs.Flat.{Flat}
use Rattle.nv_flat.specs.Listed.{IsPartThere, list_dialogue, list_reading, reading_by, refusal_of_reading}
use Rattle.nv_model.proofs.AskedOften.{AsksAtMost, AsksAtMost-and_then, read_prp-often, read_sgl-often, wants-more}
use Rattle.nv_flat.proofs.AskingLemmas.{mapped-inside}

-- a dialogue that wants nothing more, by what it wants
pub reading-fault : (m : ℕ → ℕ) (d : Dialogue Reading) (st : StatusField) → want_of d ≡ want.Fault st
    → refusal_of_reading (in_memory m d) ≡ Some st
unfolding in_memory
reading-fault m (End (Faulty code)) st wanted = (cc)
reading-fault m (End TooLong) st wanted = (cc)
reading-fault m (End (Spells pieces)) st wanted = (cc)
reading-fault m (Ask addr unit left next) st wanted = (cc)

pub reading-too_long : (m : ℕ → ℕ) (d : Dialogue Reading) → want_of d ≡ want.TooLong
    → refusal_of_reading (in_memory m d) ≡ Some (done_with InternalError)
unfolding in_memory
reading-too_long m (End (Faulty code)) wanted = (cc)
reading-too_long m (End TooLong) wanted = refl
reading-too_long m (End (Spells pieces)) wanted = (cc)
reading-too_long m (Ask addr unit left next) wanted = (cc)

pub reading-done : (m : ℕ → ℕ) (d : Dialogue Reading) (pieces : List Piece) → d ≡ End (Spells pieces)
    → in_memory m d ≡ Spells pieces
unfolding in_memory
reading-done m d pieces is = ap (in_memory m) is

-- a reserved data pointer is refused
pub reserved-refused : (f : Flat) (entry : List ℕ) (need : Need) → data_pointer (psdt_of entry) ≡ Reserved
    → refusal_of_reading (list_reading f entry need) ≡ Some (refused_with InvalidField)
unfolding in_memory and_then
reserved-refused f entry need reserved =
    ap (λ (p : DataPointer). refusal_of_reading (reading_by p f entry need)) reserved

-- what a loop over the parts of a list keeps, whose reading in the memory is this
pub record IsReading (f : Flat) (reading : Reading) (part : ℕ) (d : Dialogue Reading) : Type 0 where
  pub within : part ≤ 1023
  pub asks : AsksAtMost (mapped (identity_map (length f.memory)).regions) (1023 - part) d
  pub ends : in_memory (byte_in f.memory) d ≡ reading

-- before the first part of an SGL
pub IsReading-start_sgl : (f : Flat) (entry : List ℕ) (need : Need) (d : Dialogue Reading) (map : Mapping) (own : List ℕ) (bytes : ℕ)
    → d ≡ and_then (read_sgl (mapped map.regions) need.dest 1024 own) (λ reading. End (sized bytes reading))
    → map ≡ identity_map (length f.memory) → own ≡ sgl_of entry → bytes ≡ need.bytes
    → IsReading f (reading_by Sgl f entry need) 0 d
IsReading-start_sgl f entry need d map own bytes dialogue same_map same_own same_bytes =
    let is : d ≡ list_dialogue Sgl (length f.memory) entry need =
    dialogue
    ∙ ap (λ (x : Mapping). and_then (read_sgl (mapped x.regions) need.dest 1024 own) (λ reading. End (sized bytes reading))) same_map
    ∙ ap (λ (o : List ℕ). and_then (read_sgl (mapped (identity_map (length f.memory)).regions) need.dest 1024 o) (λ reading. End (sized bytes reading))) same_own
    ∙ ap (λ (n : ℕ). and_then (read_sgl (mapped (identity_map (length f.memory)).regions) need.dest 1024 (sgl_of entry)) (λ reading. End (sized n reading))) same_bytes in
    let P : Dialogue Reading → Type 0 = λ x. AsksAtMost (mapped (identity_map (length f.memory)).regions) 1023 x in
    record {
      within = omega arith;
      asks =
          subst P (sym is)
          (AsksAtMost-and_then (mapped (identity_map (length f.memory)).regions) 1023 (read_sgl (mapped (identity_map (length f.memory)).regions) need.dest 1024 (sgl_of entry)) (sized need.bytes)
          (read_sgl-often (mapped (identity_map (length f.memory)).regions) need.dest 1024 (sgl_of entry)));
      ends = ap (in_memory (byte_in f.memory)) is;
    }

-- and of a list of PRPs
pub IsReading-start_prp : (f : Flat) (entry : List ℕ) (need : Need) (d : Dialogue Reading) (map : Mapping) (prp1 prp2 bytes : ℕ)
    → d ≡ read_prp (mapped map.regions) prp1 prp2 bytes
    → map ≡ identity_map (length f.memory) → prp1 ≡ prp1_of entry → prp2 ≡ prp2_of entry → bytes ≡ need.bytes
    → need.bytes ≤ 131072
    → IsReading f (reading_by Prp f entry need) 0 d
IsReading-start_prp f entry need d map prp1 prp2 bytes dialogue same_map same_prp1 same_prp2 same_bytes most =
    let region : ℕ → Bool = mapped (identity_map (length f.memory)).regions in
    let is : d ≡ read_prp region (prp1_of entry) (prp2_of entry) need.bytes =
    dialogue
    ∙ ap (λ (x : Mapping). read_prp (mapped x.regions) prp1 prp2 bytes) same_map
    ∙ ap (λ (p : ℕ). read_prp region p prp2 bytes) same_prp1
    ∙ ap (λ (p : ℕ). read_prp region (prp1_of entry) p bytes) same_prp2
    ∙ ap (read_prp region (prp1_of entry) (prp2_of entry)) same_bytes in
    let P : Dialogue Reading → Type 0 = λ x. AsksAtMost region 1023 x in
    record {
      within = omega arith;
      asks = subst P (sym is) (read_prp-often region (prp1_of entry) (prp2_of entry) need.bytes most);
      ends = ap (in_memory (byte_in f.memory)) (is ∙ sym (read_prp-sized region (prp1_of entry) (prp2_of entry) need.bytes));
    }

-- what is wanted lies in the memory
pub IsReading-there : (f : Flat) (reading : Reading) (part : ℕ) (d : Dialogue Reading) (addr len : ℕ)
    → IsReading f reading part d
    → want_of d ≡ want.Read addr len → IsPartThere f.memory addr len
IsReading-there f reading part d addr len so_far wanted =
    let w = wants-more (mapped (identity_map (length f.memory)).regions) (1023 - part) d addr len so_far.asks wanted in
    record { some = w.some; at_most = w.at_most; inside = mapped-inside (length f.memory) addr len w.some w.there }

-- one more part
pub IsReading-more : (f : Flat) (reading : Reading) (part : ℕ) (d next : Dialogue Reading) (addr len : ℕ)
    → IsReading f reading part d
    → want_of d ≡ want.Read addr len → next ≡ fed d (bytes_from (byte_in f.memory) addr len)
    → in_memory (byte_in f.memory) (fed d (bytes_from (byte_in f.memory) addr len)) ≡ in_memory (byte_in f.memory) d
    → IsReading f reading (part + 1) next
IsReading-more f reading part d next addr len so_far wanted goes_on keeps =
    let w = wants-more (mapped (identity_map (length f.memory)).regions) (1023 - part) d addr len so_far.asks wanted in
    let often = w.often in
    let some = w.some in
    let size : length (bytes_from (byte_in f.memory) addr len) ≡ len = length-bytes_from (byte_in f.memory) addr len in
    let left : 1023 - part - 1 ≡ 1023 - (part + 1) = omega arith in
    let P : Dialogue Reading → Type 0 = λ x. AsksAtMost (mapped (identity_map (length f.memory)).regions) (1023 - (part + 1)) x in
    let Q : ℕ → Type 0 = λ n. AsksAtMost (mapped (identity_map (length f.memory)).regions) n (fed d (bytes_from (byte_in f.memory) addr len)) in
    record {
      within = omega arith;
      asks = subst P (sym goes_on) (subst Q left (w.behind (bytes_from (byte_in f.memory) addr len) (omega arith)));
      ends = ap (in_memory (byte_in f.memory)) goes_on ∙ keeps ∙ so_far.ends;
    }
