-- A unit of a command does the same to the blocks of a guest in two worlds that have those alike, where the bytes that it reads are the same.
use Rattle.std.proofs.Common.{◌≡◌, ℕ, zero, suc, ◌+◌, ◌*◌, ◌<◌, ◌≤◌, ◌⊎◌, inl, inr, Bool, true, false, cond, not}
use Rattle.std.proofs.Common.{◌&&◌, ◌||◌, ◌==◌, nat_lt, List, [], ◌∷◌, All}
use Rattle.std.proofs.Common.{drop, filter, map, replicate, take, Some, arith, refl, sym, ap, ◌∙◌, eqb-true, subst}
use Rattle.std.specs.List.{list_any, range_with_len}
use Rattle.std.proofs.lemmas.Bool.{cases_eq, ne_eqb}
use Rattle.std.proofs.lemmas.List.Elements.{All-drop, All-head, All-tail, All-take}
use Rattle.nv_entry.specs.Range.{blocks_of, start_of}
use Rattle.nv_entry.specs.Submission.{slba_of}
use Rattle.nv_entry.specs.declared.opcode.IoOpcode.{IoOpcode}
use Rattle.nv_entry.specs.declared.opcode.IoOpcode.TheVariants.{Flush, Write, Read, Compare, WriteZeroes, DatasetManagement}
use Rattle.nv_mem.specs.Places.{Place, places_of}
use Rattle.nv_model.specs.Carried.{block_work, units_moved}
use Rattle.nv_model.specs.Carrying.{cleared, cleared_one}
use Rattle.nv_model.specs.Judge.{Work, deallocates, has_blocks, is_fua, is_read, one_range_units}
use Rattle.nv_model.specs.Limits.{block}
use Rattle.nv_model.specs.Memory.{byte_at_place, gathered, scattered, stored}
use Rattle.nv_model.specs.Private.{Moved, block_bytes, block_moved, differs, places_of_block, others}
use Rattle.nv_model.proofs.MemoryAlike.{scattered-at}
use Rattle.nv_model.proofs.UnitsElsewhere.{units-memory}
use Rattle.nv_model.proofs.UnitWords.{units_moved-cleared, units_moved-left}
use Rattle.nv_ns.specs.Extents.{Namespace, blocks_in, place_in}
use Rattle.nv_world_model.specs.Device.{Held, moved_by, range_at}
use Rattle.nv_world_model.specs.LaneRuns.{unit_places}
use Rattle.nv_world_model.specs.View.{Span}
use Rattle.nv_laws.proofs.others.Shown.{any-append, in-one, in_span}
use Rattle.nv_laws.proofs.others.ShownTags.{any-behind, any-front}

-- ---- blocks

-- a guest's blocks and marks are the same behind both, and so is whether a Compare has differed
pub record AreAlike (ns : Namespace) (m n : Moved) : Type 0 where
  pub disk : (lba offset : ℕ) → lba < blocks_in ns → m.disk (place_in ns lba) offset ≡ n.disk (place_in ns lba) offset
  pub kept : (lba : ℕ) → lba < blocks_in ns → m.kept (place_in ns lba) ≡ n.kept (place_in ns lba)
  pub differed : m.differed ≡ n.differed

-- a mark that may rise
raised : (kept also : ℕ → Bool) (x at : ℕ) (fua : Bool) → kept x ≡ also x → cond (x == at) (kept at || fua) (kept x) ≡ cond (x == at) (also at || fua) (also x)
raised kept also x at fua same =
    (elim (x == at) as (λ b. (x == at) ≡ b → cond b (kept at || fua) (kept x) ≡ cond b (also at || fua) (also x)) [
      | true ↦ λ is. subst (λ y. (kept y || fua) ≡ (also y || fua)) (eqb-true x at is) (ap (λ k. k || fua) same)
      | false ↦ λ is. same
    ]) refl

module _ (ns : Namespace) where
  -- a block of a transfer
  block-alike : (opcode : IoOpcode) (work : Work) (index at : ℕ) (m n : Moved) → AreAlike ns m n
      → (is_read opcode ≡ false → gathered m.memory (places_of_block work index) ≡ gathered n.memory (places_of_block work index))
      → block_bytes m.disk at ≡ block_bytes n.disk at → (r s : Moved) → r ≡ block_moved opcode work index at m.memory m.disk m.kept
      → s ≡ block_moved opcode work index at n.memory n.disk n.kept
      → AreAlike ns (record { memory = r.memory; disk = r.disk; kept = r.kept; differed = m.differed || r.differed })
      (record { memory = s.memory; disk = s.disk; kept = s.kept; differed = n.differed || s.differed })
  block-alike opcode work index at m n alike gather bytes r s is also =
      subst (λ (x : Moved). AreAlike ns (record { memory = x.memory; disk = x.disk; kept = x.kept; differed = m.differed || x.differed })
      (record { memory = s.memory; disk = s.disk; kept = s.kept; differed = n.differed || s.differed })) (sym is)
      (subst (λ (y : Moved). AreAlike ns
      (record {
        memory = (block_moved opcode work index at m.memory m.disk m.kept).memory;
        disk = (block_moved opcode work index at m.memory m.disk m.kept).disk;
        kept = (block_moved opcode work index at m.memory m.disk m.kept).kept;
        differed = m.differed || (block_moved opcode work index at m.memory m.disk m.kept).differed;
      })
      (record { memory = y.memory; disk = y.disk; kept = y.kept; differed = n.differed || y.differed })) (sym also)
      (by_opcode opcode gather))
    where
      by_opcode : (o : IoOpcode) → (is_read o ≡ false → gathered m.memory (places_of_block work index) ≡ gathered n.memory (places_of_block work index))
          → AreAlike ns
          (record {
            memory = (block_moved o work index at m.memory m.disk m.kept).memory;
            disk = (block_moved o work index at m.memory m.disk m.kept).disk;
            kept = (block_moved o work index at m.memory m.disk m.kept).kept;
            differed = m.differed || (block_moved o work index at m.memory m.disk m.kept).differed;
          })
          (record {
            memory = (block_moved o work index at n.memory n.disk n.kept).memory;
            disk = (block_moved o work index at n.memory n.disk n.kept).disk;
            kept = (block_moved o work index at n.memory n.disk n.kept).kept;
            differed = n.differed || (block_moved o work index at n.memory n.disk n.kept).differed;
          })
      by_opcode Read same =
          record {
            disk = alike.disk;
            kept = (λ lba below. raised m.kept n.kept (place_in ns lba) at work.fua (alike.kept lba below));
            differed = ap (λ b. b || false) alike.differed;
          }
      by_opcode Write same =
          record {
            disk = (λ lba offset below.
                ap (λ bs. cond (place_in ns lba == at) (stored (λ _. 0) 0 bs offset) (m.disk (place_in ns lba) offset)) (same refl)
                ∙ ap (λ v. cond (place_in ns lba == at) (stored (λ _. 0) 0 (gathered n.memory (places_of_block work index)) offset) v) (alike.disk lba offset below));
            kept = (λ lba below. ap (λ k. cond (place_in ns lba == at) work.fua k) (alike.kept lba below));
            differed = ap (λ b. b || false) alike.differed;
          }
      by_opcode Compare same =
          record {
            disk = alike.disk;
            kept = (λ lba below. raised m.kept n.kept (place_in ns lba) at work.fua (alike.kept lba below));
            differed =
                ap (λ b. b || differs (gathered m.memory (places_of_block work index)) (block_bytes m.disk at)) alike.differed
                ∙ ap (λ bs. n.differed || differs bs (block_bytes m.disk at)) (same refl)
                ∙ ap (λ bs. n.differed || differs (gathered n.memory (places_of_block work index)) bs) bytes;
          }
      by_opcode WriteZeroes same = record { disk = alike.disk; kept = alike.kept; differed = ap (λ b. b || false) alike.differed }
      by_opcode DatasetManagement same = record { disk = alike.disk; kept = alike.kept; differed = ap (λ b. b || false) alike.differed }
      by_opcode Flush same = record { disk = alike.disk; kept = alike.kept; differed = ap (λ b. b || false) alike.differed }

  -- blocks that are cleared
  one-alike : (at : ℕ) (mark : Bool) (m n : Moved) → AreAlike ns m n → AreAlike ns (cleared_one at mark m) (cleared_one at mark n)
  one-alike at mark m n alike =
      record {
        disk = (λ lba offset below. ap (λ v. cond (place_in ns lba == at) (stored (λ _. 0) 0 (replicate block 0) offset) v) (alike.disk lba offset below));
        kept = (λ lba below. ap (λ k. cond (place_in ns lba == at) mark k) (alike.kept lba below));
        differed = alike.differed;
      }

  cleared-alike : (lbas : List ℕ) (mark : Bool) (m n : Moved) → AreAlike ns m n → AreAlike ns (cleared lbas mark m) (cleared lbas mark n)
  unfolding cleared
  cleared-alike [] mark m n alike = alike
  cleared-alike (lba ∷ lbas) mark m n alike = cleared-alike lbas mark (cleared_one lba mark m) (cleared_one lba mark n) (one-alike lba mark m n alike)

  range-alike : (deallocate : Bool) (range : List ℕ) (work : Work) (m n : Moved) → AreAlike ns m n
      → AreAlike ns (units_moved (one_range_units deallocate range) work m) (units_moved (one_range_units deallocate range) work n)
  range-alike true range work m n alike =
      let lbas = range_with_len (start_of range) (blocks_of range) in
      subst (λ r. AreAlike ns r (units_moved (one_range_units true range) work n)) (sym (units_moved-cleared false lbas work m))
      (subst (λ s. AreAlike ns (cleared lbas false m) s) (sym (units_moved-cleared false lbas work n)) (cleared-alike lbas false m n alike))
  range-alike false range work m n alike =
      let lbas = range_with_len (start_of range) (blocks_of range) in
      subst (λ r. AreAlike ns r (units_moved (one_range_units false range) work n)) (sym (units_moved-left lbas work m))
      (subst (λ s. AreAlike ns m s) (sym (units_moved-left lbas work n)) alike)

  -- a unit of a command
  pub unit-alike : (opcode : IoOpcode) (number disk_blocks : ℕ) (h : Held) (m n : Moved) → AreAlike ns m n
      → (is_read opcode ≡ false → gathered m.memory (unit_places (Some opcode) number h.pieces) ≡ gathered n.memory (unit_places (Some opcode) number h.pieces))
      → (has_blocks opcode ≡ true → block_bytes m.disk (slba_of h.entry + number) ≡ block_bytes n.disk (slba_of h.entry + number))
      → AreAlike ns (moved_by (Some opcode) number disk_blocks h m) (moved_by (Some opcode) number disk_blocks h n)
  unfolding units_moved
  unit-alike Read number disk_blocks h m n alike gather bytes =
      block-alike Read (block_work Read h.pieces (has_blocks Read && is_fua h.entry)) number (slba_of h.entry + number) m n alike gather (bytes refl) _ _ refl refl
  unit-alike Write number disk_blocks h m n alike gather bytes =
      block-alike Write (block_work Write h.pieces (has_blocks Write && is_fua h.entry)) number (slba_of h.entry + number) m n alike gather (bytes refl) _ _ refl refl
  unit-alike Compare number disk_blocks h m n alike gather bytes =
      block-alike Compare (block_work Compare h.pieces (has_blocks Compare && is_fua h.entry)) number (slba_of h.entry + number) m n alike gather (bytes refl) _ _ refl refl
  unit-alike WriteZeroes number disk_blocks h m n alike gather bytes =
      let one = one-alike (slba_of h.entry + number) (is_fua h.entry) m n alike in
      record { disk = one.disk; kept = one.kept; differed = ap (λ b. b || false) alike.differed }
  unit-alike DatasetManagement number disk_blocks h m n alike gather bytes =
      let work = block_work DatasetManagement h.pieces (has_blocks DatasetManagement && is_fua h.entry) in
      let moved = λ (range : List ℕ) (x : Moved). units_moved (one_range_units (deallocates h.entry) range) work x in
      subst (λ range. AreAlike ns (moved (range_at number h.pieces m.memory) m) (moved range n))
      (gather refl) (range-alike (deallocates h.entry) (range_at number h.pieces m.memory) work m n alike)
  unit-alike Flush number disk_blocks h m n alike gather bytes =
      record {
        disk = alike.disk;
        kept = (λ lba below. ap (λ k. nat_lt (place_in ns lba) disk_blocks || k) (alike.kept lba below));
        differed = ap (λ b. b || false) alike.differed;
      }

-- ---- the memory

-- a byte that is the same before is the same behind it
pub memory-kept : (opcode : IoOpcode) (number disk_blocks addr : ℕ) (h : Held) (m n : Moved)
    → (has_blocks opcode ≡ true → block_bytes m.disk (slba_of h.entry + number) ≡ block_bytes n.disk (slba_of h.entry + number)) → m.memory addr ≡ n.memory addr
    → (moved_by (Some opcode) number disk_blocks h m).memory addr ≡ (moved_by (Some opcode) number disk_blocks h n).memory addr
unfolding units_moved
memory-kept Read number disk_blocks addr h m n bytes same =
    let places = take block (drop (block * number) (places_of h.pieces)) in
    scattered-at m.memory n.memory places (block_bytes m.disk (slba_of h.entry + number)) addr same ∙ ap (λ bs. scattered n.memory places bs addr) (bytes refl)
memory-kept Write number disk_blocks addr h m n bytes same = same
memory-kept Compare number disk_blocks addr h m n bytes same = same
memory-kept WriteZeroes number disk_blocks addr h m n bytes same = same
memory-kept DatasetManagement number disk_blocks addr h m n bytes same =
    let work = block_work DatasetManagement h.pieces (has_blocks DatasetManagement && is_fua h.entry) in
    ap (λ f. f addr) (units-memory (one_range_units (deallocates h.entry) (range_at number h.pieces m.memory)) work m refl) ∙ same
    ∙ sym (ap (λ f. f addr) (units-memory (one_range_units (deallocates h.entry) (range_at number h.pieces n.memory)) work n refl))
memory-kept Flush number disk_blocks addr h m n bytes same = same

-- bytes that are the same at each place are gathered the same
gathered-same : (memory other : ℕ → ℕ) (places : List Place) → All (λ p. byte_at_place memory p ≡ byte_at_place other p) places
    → gathered memory places ≡ gathered other places
unfolding gathered
gathered-same memory other [] each = refl
gathered-same memory other (p ∷ places) each =
    ap (λ b. b ∷ map (byte_at_place memory) places) (All-head (λ q. byte_at_place memory q ≡ byte_at_place other q) p places each)
    ∙ ap (λ bs. byte_at_place other p ∷ bs) (gathered-same memory other places (All-tail (λ q. byte_at_place memory q ≡ byte_at_place other q) p places each))

pub gathered-part : (memory other : ℕ → ℕ) (places : List Place) (n k : ℕ) → All (λ p. byte_at_place memory p ≡ byte_at_place other p) places
    → gathered memory (take n (drop k places)) ≡ gathered other (take n (drop k places))
gathered-part memory other places n k each =
    gathered-same memory other (take n (drop k places))
    (All-take (λ p. byte_at_place memory p ≡ byte_at_place other p) n (drop k places) (All-drop (λ p. byte_at_place memory p ≡ byte_at_place other p) k places each))

-- ---- units that are left

-- another unit is left where it was
others-same : (k number : ℕ) (left : List ℕ) → (k ≡ number → ⊥) → list_any (λ o. o == k) (others number left) ≡ list_any (λ o. o == k) left
others-same k number [] apart = refl
others-same k number (x ∷ left) apart =
    (elim (x == number) as (λ b. (x == number) ≡ b → list_any (λ o. o == k) (cond (not b) (x ∷ others number left) (others number left)) ≡ ((x == k) || list_any (λ o. o == k) left)) [
      | true ↦ λ is.
          others-same k number left apart
          ∙ sym (ap (λ b. b || list_any (λ o. o == k) left) (ne_eqb x k (λ same. apart (sym same ∙ eqb-true x number is))))
      | false ↦ λ is. ap (λ b. (x == k) || b) (others-same k number left apart)
    ]) refl

-- a byte of the spans of units
abbrev pub unit_spans : (bounce : ℕ) → (left : List ℕ) → (from n : ℕ) → List Span
unit_spans bounce left from n = map (λ k. (bounce + block * k, block)) (filter (λ k. not (list_any (λ other. other == k) left)) (range_with_len from n))

-- the same where a first number is taken, or isn't
abbrev pub spans_with : (bounce : ℕ) → (left : List ℕ) → (from n : ℕ) → Bool → List Span
spans_with bounce left from n b =
    (let behind = filter (λ k. not (list_any (λ other. other == k) left)) (range_with_len (from + 1) n) in
    map (λ k. (bounce + block * k, block)) (cond b (from ∷ behind) behind))

-- with one unit gone it is one of that unit, or was one before
pub record IsOfUnit (addr bounce number from n : ℕ) : Type 0 where
  pub low : bounce + block * number ≤ addr
  pub high : addr < bounce + block * number + block
  pub at_least : from ≤ number
  pub below : number < from + n

module _ (addr bounce number : ℕ) (left : List ℕ) where
  taken-more : (b : Bool) (from : ℕ) (n : ℕ) → list_any (in_span addr) (unit_spans bounce left (from + 1) n) ≡ true
      → list_any (in_span addr) (spans_with bounce left from n b) ≡ true
  taken-more true from n e = any-behind (in_span addr) ((bounce + block * from, block) ∷ []) (unit_spans bounce left (from + 1) n) e
  taken-more false from n e = e

  further : (from n : ℕ) → (list_any (in_span addr) (unit_spans bounce left (from + 1) n) ≡ true) ⊎ IsOfUnit addr bounce number (from + 1) n
      → (list_any (in_span addr) (unit_spans bounce left from (suc n)) ≡ true) ⊎ IsOfUnit addr bounce number from (suc n)
  further from n (inl was) = inl (taken-more (not (list_any (λ other. other == from) left)) from n was)
  further from n (inr of) =
      (let least = of.at_least in let most = of.below in inr (record { low = of.low; high = of.high; at_least = omega (arith, least); below = omega (arith, most) }))

  here-first : (from n : ℕ) → (from ≡ number) ⊎ (from ≡ number → ⊥) → not (list_any (λ other. other == from) (others number left)) ≡ true
      → list_any (in_span addr) ((bounce + block * from, block) ∷ []) ≡ true
      → (list_any (in_span addr) (unit_spans bounce left from (suc n)) ≡ true) ⊎ IsOfUnit addr bounce number from (suc n)
  here-first from n (inl same) gone here =
      let both = in-one addr (bounce + block * from) block here in
      let low = both.0 in
      let high = both.1 in
      inr (record { low = omega (arith, low, same); high = omega (arith, high, same); at_least = omega (arith, same); below = omega (arith, same) })
  here-first from n (inr apart) gone here =
      let was : not (list_any (λ other. other == from) left) ≡ true = sym (ap not (others-same from number left apart)) ∙ gone in
      inl (ap (λ b. list_any (in_span addr) (spans_with bounce left from n b)) was
      ∙ any-front (in_span addr) ((bounce + block * from, block) ∷ []) (unit_spans bounce left (from + 1) n) here)

  pub units-split : (n from : ℕ) → list_any (in_span addr) (unit_spans bounce (others number left) from n) ≡ true
      → (list_any (in_span addr) (unit_spans bounce left from n) ≡ true) ⊎ IsOfUnit addr bounce number from n
  units-split zero from e = cc
  units-split (suc n) from e =
      (elim (not (list_any (λ other. other == from) (others number left))) as (λ b. not (list_any (λ other. other == from) (others number left)) ≡ b →
      list_any (in_span addr) (spans_with bounce (others number left) from n b) ≡ true
      → (list_any (in_span addr) (unit_spans bounce left from (suc n)) ≡ true) ⊎ IsOfUnit addr bounce number from (suc n)) [
        | true ↦ λ gone any.
            elim (any-append (in_span addr) ((bounce + block * from, block) ∷ []) (unit_spans bounce (others number left) (from + 1) n) any) [
              | inl here ↦ here-first from n (cases_eq from number) gone here
              | inr later ↦ further from n (units-split n (from + 1) later)
            ]
        | false ↦ λ still any. further from n (units-split n (from + 1) any)
      ]) refl e
