-- What a unit of a command leaves: blocks of other guests, and bytes that are neither its guest's nor in its tag's bounce pages.
use Rattle.std.proofs.Common.{◌≡◌, ℕ, ◌+◌, ◌<◌, ◌≤◌, ◌⊎◌, Bool, true, false, ◌&&◌, ◌||◌, ◌==◌, nat_lt, List, []}
use Rattle.std.proofs.Common.{◌∷◌, All, length, slice_get}
use Rattle.std.proofs.Common.{Some, refl, sym, ap, ◌∙◌, subst}
use Rattle.std.specs.Prelude.{◌≢◌}
use Rattle.std.specs.List.{list_any}
use Rattle.std.proofs.lemmas.List.Elements.{All-cons, All-nil}
use Rattle.nv_entry.specs.Opcode.{io_opcode}
use Rattle.nv_entry.specs.Submission.{opcode_of, slba_of}
use Rattle.nv_mem.specs.GuestMap.{mapped}
use Rattle.nv_model.specs.Carried.{block_work, units_moved}
use Rattle.nv_entry.specs.Range.{blocks_of, start_of}
use Rattle.nv_model.specs.Judge.{Clear, ClearBlock, Form, Keep, KeepAll, Manage, MoveBlock, Transfer, Work, deallocates}
use Rattle.nv_model.specs.Judge.{form_has_blocks, form_of, has_blocks, is_fua, one_range_units}
use Rattle.nv_model.specs.Laws.{IsElsewhere}
use Rattle.nv_model.proofs.Judged.{IsSoundWork}
use Rattle.nv_world_model.specs.Device.{range_at}
use Rattle.nv_world_model.specs.Area.{tag_count}
use Rattle.nv_laws_sound.proofs.EntryFields.{entry-opcode, own_units}
use Rattle.nv_model.specs.Private.{Moved}
use Rattle.nv_model.proofs.AnyAnswers.{end-sound}
use Rattle.nv_model.proofs.UnitsElsewhere.{IsSame, units-elsewhere}
use Rattle.nv_world_model.specs.Device.{Held, device_unit, form_moves, moved_by}
use Rattle.nv_world_model.specs.Geometry.{Geometry, Guest, regions_of, shape_of}
use Rattle.nv_world_model.specs.Share.{Share}
use Rattle.nv_world_model.specs.ShareArea.{is_no_command}
use Rattle.nv_world_model.specs.View.{in_extents}
use Rattle.nv_laws_sound.specs.Consistent.{IsInDevice, IsPlanned}
use Rattle.nv_laws_sound.specs.LaidOut.{IsLaidOut}
use Rattle.nv_laws_sound.proofs.Namespaces.{AreOwn, own-away}
use Rattle.nv_laws_sound.proofs.PlanSizes.{own_work}
use Rattle.nv_laws_sound.proofs.OnDisk.{entry-own, range-elsewhere, range-own, unit-below}

-- ---- a unit of a command in the device

-- a block is as it was, and its mark at most risen
pub record Stays (at : ℕ) (m n : Moved) : Type 0 where
  pub bytes : n.disk at ≡ m.disk at
  pub mark : m.kept at ≡ true → n.kept at ≡ true

stays-same : (at : ℕ) (m n : Moved) → IsSame at m n → Stays at m n
stays-same at m n same = record { bytes = same.bytes; mark = (λ k. same.mark ∙ k) }

all-kept : (at blocks : ℕ) (work : Work) (m : Moved) → Stays at m (units_moved (KeepAll blocks ∷ []) work m)
unfolding units_moved
all-kept at blocks work m = record { bytes = refl; mark = (λ k. rises (nat_lt at blocks) (m.kept at) k) }
  where
    rises : (b k : Bool) → k ≡ true → (b || k) ≡ true
    rises true k e = refl
    rises false k e = e

module _ (host_bytes lanes : ℕ) (geometry : Geometry) (laid : IsLaidOut host_bytes lanes geometry) (owner : ℕ) (guest : Guest)
    (given : slice_get geometry.guests owner ≡ Some guest) (entry : List ℕ) (share : Share) (is : IsPlanned guest entry share) (some : is_no_command share ≡ false)
    (lane tag : ℕ) (h : Held) (host : ℕ → ℕ) (in_device : IsInDevice geometry guest entry share lane tag host h) (number : ℕ)
    (left : list_any (λ k. k == number) h.left ≡ true) where
  sound : IsSoundWork (mapped (regions_of guest)) (shape_of guest).blocks entry is.work
  sound = end-sound (mapped (regions_of guest)) guest.limit (shape_of guest).blocks entry is.work is.verdict

  pub below : number < own_units (form_of is.work.opcode) (own_work guest entry share is)
  below = unit-below host_bytes lanes geometry laid owner guest given entry share is lane tag some h host in_device number left

  module _ (at : ℕ) (away : in_extents guest.namespace at ≡ false) where
    -- the unit's block is the guest's, so it is no block elsewhere
    pub block-apart : has_blocks is.work.opcode ≡ true → number < length (own_work guest entry share is).units → slba_of h.entry + number ≢ at
    block-apart has few same =
        let own = subst (λ e. AreOwn guest.namespace (slba_of e) (length (own_work guest entry share is).units)) (sym in_device.entry_is)
        (entry-own host_bytes lanes geometry laid owner guest given entry share is lane tag has) in
        let bad : true ≡ false = sym (own number few) ∙ ap (in_extents guest.namespace) same ∙ away in cc

    -- and so is a range of a Dataset Management, as the disk has it
    pub range-apart : form_of is.work.opcode ≡ Manage
        → (at < start_of (range_at number h.pieces host))
        ⊎ (start_of (range_at number h.pieces host) + blocks_of (range_at number h.pieces host) ≤ at)
    range-apart form =
        own-away guest.namespace (start_of (range_at number h.pieces host)) (blocks_of (range_at number h.pieces host)) at
        (range-own host_bytes lanes geometry laid owner guest given entry share is lane tag some h host in_device number left form) away

    -- a unit of a command of that form leaves the block
    form-stays : (form : Form) → form_of is.work.opcode ≡ form → (work : Work) (m : Moved) → m.memory ≡ host
        → Stays at m (units_moved (form_moves form number geometry.disk_blocks h m.memory) work m)
    form-stays (Transfer dest) form work m same =
        let few : number < length (own_work guest entry share is).units = subst (λ f. number < own_units f (own_work guest entry share is)) form below in
        let has : has_blocks is.work.opcode ≡ true = ap form_has_blocks form in
        stays-same at m _ (units-elsewhere (MoveBlock number (slba_of h.entry + number) ∷ []) work at m
        (All-cons (IsElsewhere at) (MoveBlock number (slba_of h.entry + number)) [] (block-apart has few) (All-nil (IsElsewhere at))))
    form-stays Clear form work m same =
        let few : number < length (own_work guest entry share is).units = subst (λ f. number < own_units f (own_work guest entry share is)) form below in
        let has : has_blocks is.work.opcode ≡ true = ap form_has_blocks form in
        stays-same at m _ (units-elsewhere (ClearBlock (slba_of h.entry + number) (is_fua h.entry) ∷ []) work at m
        (All-cons (IsElsewhere at) (ClearBlock (slba_of h.entry + number) (is_fua h.entry)) [] (block-apart has few) (All-nil (IsElsewhere at))))
    form-stays Manage form work m same =
        stays-same at m _ (units-elsewhere (one_range_units (deallocates h.entry) (range_at number h.pieces m.memory)) work at m
        (subst (λ memory. All (IsElsewhere at) (one_range_units (deallocates h.entry) (range_at number h.pieces memory))) (sym same)
        (range-elsewhere at (deallocates h.entry) (range_at number h.pieces host) (range-apart form))))
    form-stays Keep form work m same = all-kept at geometry.disk_blocks work m

    pub held-opcode : tag < tag_count → io_opcode (opcode_of h.entry) ≡ Some is.work.opcode
    held-opcode tag_below =
        ap (λ e. io_opcode (opcode_of e)) in_device.entry_is ∙ ap io_opcode (entry-opcode share guest entry geometry.mediator lane tag tag_below) ∙ sound.opcode

    pub unit-stays : tag < tag_count → (disk : ℕ → ℕ → ℕ) (kept : ℕ → Bool)
        → Stays at (record { memory = host; disk = disk; kept = kept; differed = h.differed }) (device_unit number geometry.disk_blocks h host disk kept)
    unfolding device_unit
    unit-stays tag_below disk kept =
        let m : Moved = record { memory = host; disk = disk; kept = kept; differed = h.differed } in
        subst (λ o. Stays at m (moved_by o number geometry.disk_blocks h m)) (sym (held-opcode tag_below))
        (form-stays (form_of is.work.opcode) refl (block_work is.work.opcode h.pieces (has_blocks is.work.opcode && is_fua h.entry)) m refl)
