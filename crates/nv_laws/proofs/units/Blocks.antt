-- A unit does the same to a guest's own blocks and to those of the disk, where its namespace lies.
use Rattle.std.proofs.Common.{◌≡◌, ℕ, zero, suc, ◌+◌, ◌<◌, ◌≤◌, Bool, true, false, ◌||◌, ◌==◌, cond, nat_lt, List, replicate}
use Rattle.std.proofs.Common.{arith, refl, sym, ap, ◌∙◌, eq-eqb, subst, inl, inr}
use Rattle.std.specs.List.{range_with_len}
use Rattle.std.proofs.lemmas.Bool.{cases_eq, ne_eqb}
use Rattle.std.proofs.lemmas.Bool.Decides.{nat_tests}
use Rattle.nv_entry.specs.Range.{blocks_of, start_of}
use Rattle.nv_entry.specs.declared.opcode.IoOpcode.{IoOpcode}
use Rattle.nv_entry.specs.declared.opcode.IoOpcode.TheVariants.{Flush, Write, Read, Compare, WriteZeroes, DatasetManagement}
use Rattle.nv_model.specs.Carried.{units_moved}
use Rattle.nv_model.specs.Carrying.{cleared, cleared_one}
use Rattle.nv_model.specs.Judge.{ClearBlock, KeepAll, Transfer, Work, form_of, one_range_units}
use Rattle.nv_model.specs.Limits.{block}
use Rattle.nv_model.specs.Memory.{gathered, stored}
use Rattle.nv_model.specs.Private.{Moved, block_bytes, block_moved, block_written, differs, marked, places_of_block, unit_moved}
use Rattle.nv_model.proofs.MemoryLemmas.{bytes_from-same}
use Rattle.nv_model.proofs.UnitWords.{units_moved-cleared, units_moved-left}
use Rattle.nv_ns.specs.Extents.{Namespace, blocks_in, place_in}
use Rattle.nv_ns.specs.Laws.{AreApart}
use Rattle.nv_ns.proofs.Apart.{place_in-apart}
use Rattle.nv_laws.specs.Units.{SameBlocks}

-- what stood before, and what a unit did to it
abbrev pub behind : Moved → Moved → Moved
behind m r = record { memory = r.memory; disk = r.disk; kept = r.kept; differed = m.differed || r.differed }

module _ (ns : Namespace) (apart : AreApart ns) where
  -- a block is that of the unit in both or in neither
  same-test : (lba at there : ℕ) → lba < blocks_in ns → at < blocks_in ns → there ≡ place_in ns at → (place_in ns lba == there) ≡ (lba == at)
  same-test lba at there within below is =
      elim (cases_eq lba at) [
        | inl same ↦ eq-eqb (place_in ns lba) there (ap (place_in ns) same ∙ sym is) ∙ sym (eq-eqb lba at same)
        | inr differ ↦
            ne_eqb (place_in ns lba) there (λ same. differ (place_in-apart ns lba at apart within below (same ∙ is)))
            ∙ sym (ne_eqb lba at differ)
      ]

  -- a mark, and a byte, behind it
  marked-same : (own whole : ℕ → Bool) (at there lba : ℕ) (mark : Bool) → lba < blocks_in ns → at < blocks_in ns → there ≡ place_in ns at
      → own lba ≡ whole (place_in ns lba) → marked own at mark lba ≡ marked whole there mark (place_in ns lba)
  marked-same own whole at there lba mark within below is same =
      ap (λ v. cond (lba == at) mark v) same
      ∙ ap (λ b. cond b mark (whole (place_in ns lba))) (sym (same-test lba at there within below is))

  written-same : (own whole : ℕ → ℕ → ℕ) (at there lba offset : ℕ) (bytes : List ℕ) → lba < blocks_in ns → at < blocks_in ns
      → there ≡ place_in ns at → own lba offset ≡ whole (place_in ns lba) offset
      → block_written own at bytes lba offset ≡ block_written whole there bytes (place_in ns lba) offset
  written-same own whole at there lba offset bytes within below is same =
      ap (λ v. cond (lba == at) (stored (λ _. 0) 0 bytes offset) v) same
      ∙ ap (λ b. cond b (stored (λ _. 0) 0 bytes offset) (whole (place_in ns lba) offset)) (sym (same-test lba at there within below is))

  -- the bytes of a block
  pub block-bytes : (own whole : ℕ → ℕ → ℕ) (at there : ℕ) → there ≡ place_in ns at
      → ((offset : ℕ) → own at offset ≡ whole (place_in ns at) offset) → block_bytes own at ≡ block_bytes whole there
  block-bytes own whole at there is same =
      bytes_from-same (own at) (whole there) 0 0 block (λ i below. same (0 + i) ∙ ap (λ x. whole x (0 + i)) (sym is))

  -- a block that moves
  pub block-same : (opcode : IoOpcode) (work other : Work) (index at there : ℕ) (m n : Moved) → SameBlocks ns m n → at < blocks_in ns
      → there ≡ place_in ns at → work.fua ≡ other.fua
      → (form_of opcode ≡ Transfer false → gathered m.memory (places_of_block work index) ≡ gathered n.memory (places_of_block other index))
      → SameBlocks ns (behind m (block_moved opcode work index at m.memory m.disk m.kept))
      (behind n (block_moved opcode other index there n.memory n.disk n.kept))
  block-same Read work other index at there m n same below is fua source =
      record {
        bytes = same.bytes;
        marks = (λ lba within.
            ap (λ v. marked m.kept at v lba)
            (ap (λ k. k || work.fua) (same.marks at below ∙ ap n.kept (sym is)) ∙ ap (λ f. n.kept there || f) fua)
            ∙ marked-same m.kept n.kept at there lba (n.kept there || other.fua) within below is (same.marks lba within));
        compared = ap (λ b. b || false) same.compared;
      }
  block-same Write work other index at there m n same below is fua source =
      record {
        bytes = (λ lba offset within.
            ap (λ bs. block_written m.disk at bs lba offset) (source refl)
            ∙ written-same m.disk n.disk at there lba offset (gathered n.memory (places_of_block other index)) within below is
            (same.bytes lba offset within));
        marks = (λ lba within.
            ap (λ v. marked m.kept at v lba) fua
            ∙ marked-same m.kept n.kept at there lba other.fua within below is (same.marks lba within));
        compared = ap (λ b. b || false) same.compared;
      }
  block-same Compare work other index at there m n same below is fua source =
      record {
        bytes = same.bytes;
        marks = (λ lba within.
            ap (λ v. marked m.kept at v lba)
            (ap (λ k. k || work.fua) (same.marks at below ∙ ap n.kept (sym is)) ∙ ap (λ f. n.kept there || f) fua)
            ∙ marked-same m.kept n.kept at there lba (n.kept there || other.fua) within below is (same.marks lba within));
        compared =
            ap (λ b. b || differs (gathered m.memory (places_of_block work index)) (block_bytes m.disk at)) same.compared
            ∙ ap (λ bs. n.differed || differs bs (block_bytes m.disk at)) (source refl)
            ∙ ap (λ bs. n.differed || differs (gathered n.memory (places_of_block other index)) bs)
            (block-bytes m.disk n.disk at there is (λ offset. same.bytes at offset below));
      }
  block-same WriteZeroes work other index at there m n same below is fua source =
      record { bytes = same.bytes; marks = same.marks; compared = ap (λ b. b || false) same.compared }
  block-same DatasetManagement work other index at there m n same below is fua source =
      record { bytes = same.bytes; marks = same.marks; compared = ap (λ b. b || false) same.compared }
  block-same Flush work other index at there m n same below is fua source =
      record { bytes = same.bytes; marks = same.marks; compared = ap (λ b. b || false) same.compared }

  -- blocks that are cleared
  one-same : (at there : ℕ) (mark : Bool) (m n : Moved) → SameBlocks ns m n → at < blocks_in ns → there ≡ place_in ns at
      → SameBlocks ns (cleared_one at mark m) (cleared_one there mark n)
  one-same at there mark m n same below is =
      record {
        bytes = (λ lba offset within.
            written-same m.disk n.disk at there lba offset (replicate block 0) within below is (same.bytes lba offset within));
        marks = (λ lba within. marked-same m.kept n.kept at there lba mark within below is (same.marks lba within));
        compared = same.compared;
      }

  pub clear-same : (at there : ℕ) (mark also : Bool) (work other : Work) (m n : Moved) → SameBlocks ns m n → at < blocks_in ns
      → there ≡ place_in ns at → mark ≡ also
      → SameBlocks ns (behind m (unit_moved (ClearBlock at mark) work m.memory m.disk m.kept))
      (behind n (unit_moved (ClearBlock there also) other n.memory n.disk n.kept))
  clear-same at there mark also work other m n same below is marks =
      subst (λ b. SameBlocks ns (behind m (unit_moved (ClearBlock at mark) work m.memory m.disk m.kept))
      (behind n (unit_moved (ClearBlock there b) other n.memory n.disk n.kept))) marks
      (let one = one-same at there mark m n same below is in
      record { bytes = one.bytes; marks = one.marks; compared = ap (λ b. b || false) one.compared })

  -- blocks in a row that lie in a row on the disk
  cleared-same : (len at there : ℕ) (mark : Bool) (m n : Moved) → SameBlocks ns m n → at + len ≤ blocks_in ns
      → ((i : ℕ) → i < len → place_in ns (at + i) ≡ there + i)
      → SameBlocks ns (cleared (range_with_len at len) mark m) (cleared (range_with_len there len) mark n)
  unfolding cleared
  cleared-same zero at there mark m n same fit row = same
  cleared-same (suc len) at there mark m n same fit row =
      let first : place_in ns (at + 0) ≡ there + 0 = row 0 (omega arith) in
      let here : at ≡ at + 0 = omega arith in
      let place : place_in ns at ≡ place_in ns (at + 0) = ap (place_in ns) here in
      cleared-same len (at + 1) (there + 1) mark (cleared_one at mark m) (cleared_one there mark n)
      (one-same at there mark m n same (omega (arith, fit)) (omega (arith, first, place))) (omega (arith, fit))
      (λ i below.
      let next : place_in ns (at + suc i) ≡ there + suc i = row (suc i) (omega (arith, below)) in
      let on : at + 1 + i ≡ at + suc i = omega arith in
      let moved : place_in ns (at + 1 + i) ≡ place_in ns (at + suc i) = ap (place_in ns) on in
      omega (arith, next, moved))

  -- those of a range
  pub range-same : (deallocate : Bool) (range whole : List ℕ) (work other : Work) (m n : Moved) → SameBlocks ns m n
      → start_of range + blocks_of range ≤ blocks_in ns
      → ((i : ℕ) → i < blocks_of range → place_in ns (start_of range + i) ≡ start_of whole + i) → blocks_of whole ≡ blocks_of range
      → SameBlocks ns (units_moved (one_range_units deallocate range) work m) (units_moved (one_range_units deallocate whole) other n)
  range-same true range whole work other m n same fit row blocks =
      subst (λ r. SameBlocks ns r (units_moved (one_range_units true whole) other n))
      (sym (units_moved-cleared false (range_with_len (start_of range) (blocks_of range)) work m))
      (subst (λ s. SameBlocks ns (cleared (range_with_len (start_of range) (blocks_of range)) false m) s)
      (sym (units_moved-cleared false (range_with_len (start_of whole) (blocks_of whole)) other n
      ∙ ap (λ len. cleared (range_with_len (start_of whole) len) false n) blocks))
      (cleared-same (blocks_of range) (start_of range) (start_of whole) false m n same fit row))
  range-same false range whole work other m n same fit row blocks =
      subst (λ r. SameBlocks ns r (units_moved (one_range_units false whole) other n))
      (sym (units_moved-left (range_with_len (start_of range) (blocks_of range)) work m))
      (subst (λ s. SameBlocks ns m s) (sym (units_moved-left (range_with_len (start_of whole) (blocks_of whole)) other n)) same)

  -- all blocks of a namespace become kept, and all of the disk
  pub keep-same : (blocks disk_blocks : ℕ) (work other : Work) (m n : Moved) → SameBlocks ns m n → blocks ≡ blocks_in ns
      → ((lba : ℕ) → lba < blocks_in ns → place_in ns lba < disk_blocks)
      → SameBlocks ns (behind m (unit_moved (KeepAll blocks) work m.memory m.disk m.kept))
      (behind n (unit_moved (KeepAll disk_blocks) other n.memory n.disk n.kept))
  keep-same blocks disk_blocks work other m n same all on_disk =
      record {
        bytes = same.bytes;
        marks = (λ lba within.
            ap (λ b. b || m.kept lba) (is-below lba blocks (omega (arith, within, all)))
            ∙ sym (ap (λ b. b || n.kept (place_in ns lba)) (is-below (place_in ns lba) disk_blocks (on_disk lba within))));
        compared = ap (λ b. b || false) same.compared;
      }
    where
      is-below : (a b : ℕ) → a < b → nat_lt a b ≡ true
      is-below a b below = grind (arith, nat_tests)
