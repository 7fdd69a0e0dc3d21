-- What others' units, and blocks that become kept, do to a guest's marks.
use Rattle.std.proofs.Common.{◌≡◌, ℕ, zero, suc, ◌+◌, ◌<◌, ◌≤◌, ◌⊎◌, inl, inr, Bool, true, false, ◌||◌, ◌&&◌}
use Rattle.std.proofs.Common.{◌==◌, cond, nat_lt}
use Rattle.std.proofs.Common.{List, [], ◌∷◌, All, filter, length, map, slice_get, Some, arith, refl, sym, ap, ◌∙◌, eq-eqb, subst}
use Rattle.std.specs.Prelude.{◌≢◌}
use Rattle.std.specs.List.{list_any, range_with_len}
use Rattle.std.proofs.lemmas.Bool.{cases_eq, ne_eqb}
use Rattle.std.proofs.lemmas.Bool.Decides.{nat_tests}
use Rattle.std.proofs.lemmas.List.Elements.{All-cons, All-filter, All-head, All-nil, All-tail}
use Rattle.nv_entry.specs.Opcode.{io_opcode}
use Rattle.nv_entry.specs.Range.{blocks_of, start_of}
use Rattle.nv_entry.specs.Submission.{opcode_of, slba_of}
use Rattle.nv_model.specs.Carried.{block_work, units_moved}
use Rattle.nv_model.specs.Judge.{Clear, ClearBlock, Form, Keep, Manage, MoveBlock, Transfer, Work}
use Rattle.nv_model.specs.Judge.{deallocates, form_has_blocks, form_of, has_blocks, is_fua, one_range_units}
use Rattle.nv_model.specs.Laws.{IsElsewhere}
use Rattle.nv_model.specs.Private.{KeepStep, Moved, Private, Shape, marked, run_of, step}
use Rattle.nv_model.proofs.UnitsElsewhere.{IsSame, units-elsewhere}
use Rattle.nv_ns.specs.Extents.{blocks_in, place_in}
use Rattle.nv_world_model.specs.Area.{tag_count}
use Rattle.nv_world_model.specs.Device.{Held, device_unit, form_moves, moved_by, range_at}
use Rattle.nv_world_model.specs.Geometry.{Geometry, Guest, shape_of}
use Rattle.nv_world_model.specs.Share.{Share}
use Rattle.nv_world_model.specs.PrivateSteps.{keeps, keeps_all, others_moves}
use Rattle.nv_world_model.specs.View.{in_extents}
use Rattle.nv_laws_sound.specs.Consistent.{IsInDevice}
use Rattle.nv_laws_sound.specs.LaidOut.{IsLaidOut}
use Rattle.nv_laws_sound.proofs.Named.{row-all}
use Rattle.nv_laws_sound.proofs.Namespaces.{AreOwn, own-away, place-disk, place-own}
use Rattle.nv_laws_sound.proofs.OnDisk.{range-elsewhere}
use Rattle.nv_laws_sound.proofs.PlanSizes.{HasCount}
use Rattle.nv_laws.specs.Marks.{RunsToMarks, SameMarks}
use Rattle.nv_laws.proofs.units.Moving as moving
use Rattle.nv_laws.proofs.units.OwnDisk.{entry-own, range-own, unit-below_blocks}
use Rattle.nv_laws.proofs.units.OwnShares.{IsOwnShare}

-- ---- blocks that become kept on the guest's own controller

-- the marks behind it
raised : (lbas : List ℕ) → (ℕ → Bool) → ℕ → Bool
raised [] kept = kept
raised (lba ∷ lbas) kept = raised lbas (marked kept lba true)

raised-at : (lbas : List ℕ) (kept : ℕ → Bool) (at : ℕ) → raised lbas kept at ≡ (list_any (λ lba. at == lba) lbas || kept at)
unfolding raised
raised-at [] kept at = refl
raised-at (lba ∷ lbas) kept at = raised-at lbas (marked kept lba true) at ∙ either (at == lba) (list_any (λ l. at == l) lbas) (kept at)
  where
    either : (b any k : Bool) → (any || cond b true k) ≡ ((b || any) || k)
    either true true k = refl
    either true false k = refl
    either false true k = refl
    either false false k = refl

-- keeping blocks of the namespace is a run
keep-run : (shape : Shape) (lbas : List ℕ) (p : Private) → All (λ lba. lba < shape.blocks) lbas
    → run_of shape (map KeepStep lbas) p ≡ Some (record { state = record p { kept = raised lbas p.kept }; seen = [] })
unfolding run_of step raised
keep-run shape [] p each = refl
keep-run shape (lba ∷ lbas) p each =
    let below = All-head (λ l. l < shape.blocks) lba lbas each in
    let within : nat_lt lba shape.blocks ≡ true = grind (arith, nat_tests, below) in
    let rest = keep-run shape lbas (record p { kept = marked p.kept lba true }) (All-tail (λ l. l < shape.blocks) lba lbas each) in
    rw (within, rest) refl

-- no steps are one that changes nothing
no-steps : (shape : Shape) (p : Private) → run_of shape [] p ≡ Some (record { state = p; seen = [] })
unfolding run_of
no-steps shape p = refl

-- ---- numbers in a row

row-any : (at from n : ℕ) (q : ℕ → Bool) → from ≤ at → at < from + n → list_any (λ lba. at == lba) (filter q (range_with_len from n)) ≡ q at
row-any at from zero q low high = absurd (omega (arith, low, high))
row-any at from (suc n) q low high =
    elim (cases_eq at from) [
      | inl same ↦ first same (q from) refl
      | inr apart ↦ later apart (q from) (row-any at (from + 1) n q (omega (arith, low, apart)) (omega (arith, high)))
    ]
  where
    none : (len start : ℕ) → at < start → list_any (λ lba. at == lba) (filter q (range_with_len start len)) ≡ false
    none zero start less = refl
    none (suc len) start less = by_test (q start) (none len (start + 1) (omega (arith, less)))
      where
        by_test : (b : Bool) → list_any (λ lba. at == lba) (filter q (range_with_len (start + 1) len)) ≡ false
            → list_any (λ lba. at == lba) (cond b (start ∷ filter q (range_with_len (start + 1) len)) (filter q (range_with_len (start + 1) len))) ≡ false
        by_test true rest =
            ap (λ b. b || list_any (λ lba. at == lba) (filter q (range_with_len (start + 1) len))) (ne_eqb at start (λ same. absurd (omega (arith, same, less)))) ∙ rest
        by_test false rest = rest

    first : at ≡ from → (b : Bool) → q from ≡ b
        → list_any (λ lba. at == lba) (cond b (from ∷ filter q (range_with_len (from + 1) n)) (filter q (range_with_len (from + 1) n))) ≡ q at
    first same true is =
        ap (λ b. b || list_any (λ lba. at == lba) (filter q (range_with_len (from + 1) n))) (eq-eqb at from same) ∙ sym (ap q same ∙ is)
    first same false is = none n (from + 1) (omega (arith, same)) ∙ sym (ap q same ∙ is)

    later : (at ≡ from → ⊥) → (b : Bool) → list_any (λ lba. at == lba) (filter q (range_with_len (from + 1) n)) ≡ q at
        → list_any (λ lba. at == lba) (cond b (from ∷ filter q (range_with_len (from + 1) n)) (filter q (range_with_len (from + 1) n))) ≡ q at
    later apart true rest = ap (λ b. b || list_any (λ lba. at == lba) (filter q (range_with_len (from + 1) n))) (ne_eqb at from apart) ∙ rest
    later apart false rest = rest

filter-row : (from n : ℕ) → filter (λ _. true) (range_with_len from n) ≡ range_with_len from n
filter-row from zero = refl
filter-row from (suc n) = ap (λ ks. from ∷ ks) (filter-row (from + 1) n)

namespace-row : (blocks : ℕ) → All (λ lba. lba < blocks) (range_with_len 0 blocks)
namespace-row blocks = row-all (λ lba. lba < blocks) 0 blocks (λ at low high. omega (arith, high))

-- ---- a Keep

-- the blocks of the namespace that a block of the disk is, if one is, become kept
pub keep-marks : (guest : Guest) (p : Private) (whole : ℕ → Bool) (block : ℕ) → SameMarks guest.namespace p.kept whole
    → RunsToMarks guest (keeps guest.namespace block) p (marked whole block true)
keep-marks guest p whole block same =
    let blocks = blocks_in guest.namespace in
    let lbas = filter (λ lba. place_in guest.namespace lba == block) (range_with_len 0 blocks) in
    record {
      marks = raised lbas p.kept;
      runs = keep-run (shape_of guest) lbas p (All-filter (λ lba. place_in guest.namespace lba == block) (λ lba. lba < blocks) (range_with_len 0 blocks) (namespace-row blocks));
      same = (λ lba below.
          raised-at lbas p.kept lba
          ∙ ap (λ b. b || p.kept lba) (row-any lba 0 blocks (λ x. place_in guest.namespace x == block) (omega arith) (omega (arith, below)))
          ∙ ap (λ k. (place_in guest.namespace lba == block) || k) (same lba below)
          ∙ as_cond (place_in guest.namespace lba == block) (whole (place_in guest.namespace lba)));
    }
  where
    as_cond : (b k : Bool) → (b || k) ≡ cond b true k
    as_cond true k = refl
    as_cond false k = refl

-- ---- another's unit

module _ (host_bytes lanes : ℕ) (geometry : Geometry) (laid : IsLaidOut host_bytes lanes geometry) (owner : ℕ) (guest : Guest)
    (given : slice_get geometry.guests owner ≡ Some guest) (entry : List ℕ) (share : Share) (part : Work) (is : IsOwnShare guest entry share part)
    (count : HasCount (form_of part.opcode) part) (lane tag : ℕ)
    (tag_below : tag < tag_count) (h : Held) (host : ℕ → ℕ) (in_device : IsInDevice geometry guest entry share lane tag host h) (number : ℕ)
    (left : list_any (λ k. k == number) h.left ≡ true) where
  opcode-is : io_opcode (opcode_of h.entry) ≡ Some part.opcode
  opcode-is = moving.opcode-is host_bytes lanes geometry laid owner guest given entry share part is count lane tag tag_below h host in_device number left

  below-blocks : has_blocks part.opcode ≡ true → number < length part.units
  below-blocks = unit-below_blocks host_bytes lanes geometry laid owner guest given entry share part is count lane tag h host in_device number left

  first-own : has_blocks part.opcode ≡ true → AreOwn guest.namespace (slba_of h.entry) (length part.units)
  first-own has =
      subst (λ e. AreOwn guest.namespace (slba_of e) (length part.units)) (sym in_device.entry_is)
      (entry-own host_bytes lanes geometry laid owner guest given entry share part is count lane tag has)

  one-elsewhere : (at : ℕ) → in_extents guest.namespace at ≡ false → has_blocks part.opcode ≡ true → number < length part.units
      → slba_of h.entry + number ≢ at
  one-elsewhere at away has few same = off (own-away guest.namespace (slba_of h.entry) (length part.units) at (first-own has) away)
    where
      off : (at < slba_of h.entry) ⊎ (slba_of h.entry + length part.units ≤ at) → ⊥
      off (inl before) = absurd (omega (arith, before, same))
      off (inr behind) = absurd (omega (arith, behind, same, few))

  form-same : (form : Form) → form_of part.opcode ≡ form → keeps_all form ≡ false → (at : ℕ)
      → in_extents guest.namespace at ≡ false → (work : Work) (m : Moved) → m.memory ≡ host
      → IsSame at m (units_moved (form_moves form number geometry.disk_blocks h m.memory) work m)
  form-same (Transfer dest) form some at away work m same =
      let few : number < length part.units = below-blocks (ap form_has_blocks form) in
      units-elsewhere (MoveBlock number (slba_of h.entry + number) ∷ []) work at m
      (All-cons (IsElsewhere at) (MoveBlock number (slba_of h.entry + number)) [] (one-elsewhere at away (ap form_has_blocks form) few) (All-nil (IsElsewhere at)))
  form-same Clear form some at away work m same =
      let few : number < length part.units = below-blocks (ap form_has_blocks form) in
      units-elsewhere (ClearBlock (slba_of h.entry + number) (is_fua h.entry) ∷ []) work at m
      (All-cons (IsElsewhere at) (ClearBlock (slba_of h.entry + number) (is_fua h.entry)) [] (one-elsewhere at away (ap form_has_blocks form) few) (All-nil (IsElsewhere at)))
  form-same Manage form some at away work m same =
      let own = range-own host_bytes lanes geometry laid owner guest given entry share part is count lane tag h host in_device number left form in
      units-elsewhere (one_range_units (deallocates h.entry) (range_at number h.pieces m.memory)) work at m
      (subst (λ memory. All (IsElsewhere at) (one_range_units (deallocates h.entry) (range_at number h.pieces memory))) (sym same)
      (range-elsewhere at (deallocates h.entry) (range_at number h.pieces host)
      (own-away guest.namespace (start_of (range_at number h.pieces host)) (blocks_of (range_at number h.pieces host)) at own away)))
  form-same Keep form some at away work m same = cc

  -- a unit that is no Flush's leaves a block that isn't its guest's, and its mark
  pub unit-leaves : keeps_all (form_of part.opcode) ≡ false → (at : ℕ) → in_extents guest.namespace at ≡ false
      → (disk : ℕ → ℕ → ℕ) (kept : ℕ → Bool)
      → IsSame at (record { memory = host; disk = disk; kept = kept; differed = h.differed }) (device_unit number geometry.disk_blocks h host disk kept)
  unfolding device_unit
  unit-leaves some at away disk kept =
      let m : Moved = record { memory = host; disk = disk; kept = kept; differed = h.differed } in
      subst (λ o. IsSame at m (moved_by o number geometry.disk_blocks h m)) (sym opcode-is)
      (form-same (form_of part.opcode) refl some at away (block_work part.opcode h.pieces (has_blocks part.opcode && is_fua h.entry)) m refl)

  -- and a Flush's makes every block of the disk kept
  flush-keeps : (form : Form) → form_of part.opcode ≡ form → keeps_all form ≡ true → (at : ℕ) → at < geometry.disk_blocks → (work : Work) (m : Moved)
      → (units_moved (form_moves form number geometry.disk_blocks h m.memory) work m).kept at ≡ true
  unfolding units_moved
  flush-keeps (Transfer dest) form all at within work m = cc
  flush-keeps Clear form all at within work m = cc
  flush-keeps Manage form all at within work m = cc
  flush-keeps Keep form all at within work m =
      let test : nat_lt at geometry.disk_blocks ≡ true = grind (arith, nat_tests, within) in
      ap (λ b. b || m.kept at) test

  flush-writes_nothing : (form : Form) → keeps_all form ≡ true → (at : ℕ) (work : Work) (m : Moved)
      → (units_moved (form_moves form number geometry.disk_blocks h m.memory) work m).disk at ≡ m.disk at
  unfolding units_moved
  flush-writes_nothing (Transfer dest) all at work m = cc
  flush-writes_nothing Clear all at work m = cc
  flush-writes_nothing Manage all at work m = cc
  flush-writes_nothing Keep all at work m = refl

  unit-writes_nothing : keeps_all (form_of part.opcode) ≡ true → (at : ℕ) (disk : ℕ → ℕ → ℕ) (kept : ℕ → Bool)
      → (device_unit number geometry.disk_blocks h host disk kept).disk at ≡ disk at
  unfolding device_unit
  unit-writes_nothing all at disk kept =
      let m : Moved = record { memory = host; disk = disk; kept = kept; differed = h.differed } in
      ap (λ o. (moved_by o number geometry.disk_blocks h m).disk at) opcode-is
      ∙ flush-writes_nothing (form_of part.opcode) all at (block_work part.opcode h.pieces (has_blocks part.opcode && is_fua h.entry)) m

  pub unit-keeps : keeps_all (form_of part.opcode) ≡ true → (at : ℕ) → at < geometry.disk_blocks → (disk : ℕ → ℕ → ℕ) (kept : ℕ → Bool)
      → (device_unit number geometry.disk_blocks h host disk kept).kept at ≡ true
  unfolding device_unit
  unit-keeps all at within disk kept =
      let m : Moved = record { memory = host; disk = disk; kept = kept; differed = h.differed } in
      ap (λ o. (moved_by o number geometry.disk_blocks h m).kept at) opcode-is
      ∙ flush-keeps (form_of part.opcode) refl all at within (block_work part.opcode h.pieces (has_blocks part.opcode && is_fua h.entry)) m

  -- ---- another guest's marks

  module _ (other : ℕ) (guest_too : Guest) (given_too : slice_get geometry.guests other ≡ Some guest_too) (differ : other ≢ owner)
      (disk : ℕ → ℕ → ℕ) (kept : ℕ → Bool) where
    away-from : (lba : ℕ) → lba < blocks_in guest_too.namespace → in_extents guest.namespace (place_in guest_too.namespace lba) ≡ false
    away-from lba within =
        (laid.apart other owner guest_too guest given_too given differ).blocks (place_in guest_too.namespace lba)
        (place-own guest_too.namespace lba within)

    pub other-marks : (p : Private) → SameMarks guest_too.namespace p.kept kept
        → RunsToMarks guest_too (others_moves (Some part) guest_too.namespace) p (device_unit number geometry.disk_blocks h host disk kept).kept
    other-marks p same = by_form (keeps_all (form_of part.opcode)) refl
      where
        by_form : (b : Bool) → keeps_all (form_of part.opcode) ≡ b
            → RunsToMarks guest_too (cond b (map KeepStep (range_with_len 0 (blocks_in guest_too.namespace))) []) p (device_unit number geometry.disk_blocks h host disk kept).kept
        by_form true all =
            (let blocks = blocks_in guest_too.namespace in
            record {
              marks = raised (range_with_len 0 blocks) p.kept;
              runs = keep-run (shape_of guest_too) (range_with_len 0 blocks) p (namespace-row blocks);
              same = (λ lba within.
                  raised-at (range_with_len 0 blocks) p.kept lba
                  ∙ ap (λ b. b || p.kept lba) (ap (list_any (λ x. lba == x)) (sym (filter-row 0 blocks)) ∙ row-any lba 0 blocks (λ _. true) (omega arith) (omega (arith, within)))
                  ∙ sym (unit-keeps all (place_in guest_too.namespace lba)
                  (place-disk host_bytes geometry.disk_blocks lba guest_too (laid.given other guest_too given_too) within) disk kept));
            })
        by_form false some =
            record {
              marks = p.kept;
              runs = no-steps (shape_of guest_too) p;
              same = (λ lba within. same lba within ∙ sym (unit-leaves some (place_in guest_too.namespace lba) (away-from lba within) disk kept).mark);
            }

    -- and its blocks' bytes stay
    pub other-bytes : (lba : ℕ) → lba < blocks_in guest_too.namespace
        → (device_unit number geometry.disk_blocks h host disk kept).disk (place_in guest_too.namespace lba) ≡ disk (place_in guest_too.namespace lba)
    other-bytes lba within =
        (elim (keeps_all (form_of part.opcode)) as (λ b. keeps_all (form_of part.opcode) ≡ b
        → (device_unit number geometry.disk_blocks h host disk kept).disk (place_in guest_too.namespace lba) ≡ disk (place_in guest_too.namespace lba)) [
          | true ↦ λ all. unit-writes_nothing all (place_in guest_too.namespace lba) disk kept
          | false ↦ λ some. (unit-leaves some (place_in guest_too.namespace lba) (away-from lba within) disk kept).bytes
        ]) refl
