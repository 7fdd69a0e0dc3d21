-- What a unit of a command does to the marks of other guests' blocks: nothing, but that a Flush makes them all kept.
use Rattle.std.proofs.Common.{◌≡◌, ℕ, ◌+◌, ◌<◌, Bool, true, false, cond, ◌&&◌, ◌||◌, ◌==◌, nat_lt, List, [], ◌∷◌, All}
use Rattle.std.proofs.Common.{length, slice_get, Some, refl, sym, ap, ◌∙◌, subst}
use Rattle.std.specs.List.{list_any}
use Rattle.std.proofs.lemmas.List.Elements.{All-cons, All-nil}
use Rattle.nv_entry.specs.Submission.{slba_of}
use Rattle.nv_model.proofs.UnitsElsewhere.{units-elsewhere}
use Rattle.nv_model.specs.Carried.{block_work, units_moved}
use Rattle.nv_model.specs.Judge.{Clear, ClearBlock, Form, Keep, Manage, MoveBlock, Transfer, Work}
use Rattle.nv_model.specs.Judge.{deallocates, form_has_blocks, form_of, has_blocks, is_fua, one_range_units}
use Rattle.nv_model.specs.Laws.{IsElsewhere}
use Rattle.nv_model.specs.Private.{Moved}
use Rattle.nv_world_model.specs.Area.{tag_count}
use Rattle.nv_world_model.specs.Device.{Held, device_unit, form_moves, moved_by, range_at}
use Rattle.nv_world_model.specs.Geometry.{Geometry, Guest}
use Rattle.nv_world_model.specs.Share.{Share}
use Rattle.nv_world_model.specs.ShareArea.{is_no_command}
use Rattle.nv_world_model.specs.View.{in_extents}
use Rattle.nv_world_model.specs.PrivateSteps.{keeps_all}
use Rattle.nv_world_model.specs.View.{in_extents}
use Rattle.nv_laws_sound.specs.Consistent.{IsInDevice, IsPlanned}
use Rattle.nv_laws_sound.specs.LaidOut.{IsLaidOut}
use Rattle.nv_laws_sound.proofs.EntryFields.{own_units}
use Rattle.nv_laws_sound.proofs.PlanSizes.{own_work}
use Rattle.nv_laws_sound.proofs.OnDisk.{range-elsewhere}
use Rattle.nv_laws.proofs.others.MoveEvents.{below, block-apart, held-opcode, range-apart}

module _ (host_bytes lanes : ℕ) (geometry : Geometry) (laid : IsLaidOut host_bytes lanes geometry) (owner : ℕ) (guest : Guest)
    (given : slice_get geometry.guests owner ≡ Some guest) (entry : List ℕ) (share : Share) (is : IsPlanned guest entry share) (some : is_no_command share ≡ false)
    (lane tag : ℕ) (h : Held) (host : ℕ → ℕ) (in_device : IsInDevice geometry guest entry share lane tag host h) (number : ℕ)
    (left : list_any (λ k. k == number) h.left ≡ true) (at : ℕ) (away : in_extents guest.namespace at ≡ false) where
  apart : has_blocks is.work.opcode ≡ true → number < length (own_work guest entry share is).units → (slba_of h.entry + number ≡ at) → ⊥
  apart = block-apart host_bytes lanes geometry laid owner guest given entry share is some lane tag h host in_device number left at away

  among : number < own_units (form_of is.work.opcode) (own_work guest entry share is)
  among = below host_bytes lanes geometry laid owner guest given entry share is some lane tag h host in_device number left

  -- behind a unit of a command of that form
  form-marks : (form : Form) → form_of is.work.opcode ≡ form → (work : Work) (m : Moved) → m.memory ≡ host
      → (units_moved (form_moves form number geometry.disk_blocks h m.memory) work m).kept at
      ≡ cond (keeps_all form) (nat_lt at geometry.disk_blocks || m.kept at) (m.kept at)
  unfolding units_moved
  form-marks (Transfer dest) form work m same =
      let few : number < length (own_work guest entry share is).units = subst (λ f. number < own_units f (own_work guest entry share is)) form among in
      let has : has_blocks is.work.opcode ≡ true = ap form_has_blocks form in
      (units-elsewhere (MoveBlock number (slba_of h.entry + number) ∷ []) work at m
      (All-cons (IsElsewhere at) (MoveBlock number (slba_of h.entry + number)) [] (apart has few) (All-nil (IsElsewhere at)))).mark
  form-marks Clear form work m same =
      let few : number < length (own_work guest entry share is).units = subst (λ f. number < own_units f (own_work guest entry share is)) form among in
      let has : has_blocks is.work.opcode ≡ true = ap form_has_blocks form in
      (units-elsewhere (ClearBlock (slba_of h.entry + number) (is_fua h.entry) ∷ []) work at m
      (All-cons (IsElsewhere at) (ClearBlock (slba_of h.entry + number) (is_fua h.entry)) [] (apart has few) (All-nil (IsElsewhere at)))).mark
  form-marks Manage form work m same =
      (units-elsewhere (one_range_units (deallocates h.entry) (range_at number h.pieces m.memory)) work at m
      (subst (λ memory. All (IsElsewhere at) (one_range_units (deallocates h.entry) (range_at number h.pieces memory))) (sym same)
      (range-elsewhere at (deallocates h.entry) (range_at number h.pieces host)
      (range-apart host_bytes lanes geometry laid owner guest given entry share is some lane tag h host in_device number left at away form)))).mark
  form-marks Keep form work m same = refl

  pub unit-marks : tag < tag_count → (disk : ℕ → ℕ → ℕ) (kept : ℕ → Bool)
      → (device_unit number geometry.disk_blocks h host disk kept).kept at
      ≡ cond (keeps_all (form_of is.work.opcode)) (nat_lt at geometry.disk_blocks || kept at) (kept at)
  unfolding device_unit
  unit-marks tag_below disk kept =
      let m : Moved = record { memory = host; disk = disk; kept = kept; differed = h.differed } in
      ap (λ o. (moved_by o number geometry.disk_blocks h m).kept at)
      (held-opcode host_bytes lanes geometry laid owner guest given entry share is some lane tag h host in_device number left at away tag_below)
      ∙ form-marks (form_of is.work.opcode) refl (block_work is.work.opcode h.pieces (has_blocks is.work.opcode && is_fua h.entry)) m refl
