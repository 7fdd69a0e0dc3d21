-- A device's unit of a share of a guest's command is a unit of that share's own work.
use Rattle.std.proofs.Common.{◌≡◌, ℕ, ◌+◌, ◌*◌, ◌<◌, ◌≤◌, Bool, true, false, ◌&&◌, ◌==◌, List, [], ◌∷◌, drop}
use Rattle.std.proofs.Common.{length, slice_get}
use Rattle.std.proofs.Common.{take, Some, arith, refl, sym, ap, ◌∙◌, subst}
use Rattle.std.specs.List.{list_any}
use Rattle.std.proofs.lemmas.List.{drop-map, take-map}
use Rattle.nv_entry.specs.Opcode.{io_opcode}
use Rattle.nv_entry.specs.Submission.{opcode_of, slba_of}
use Rattle.nv_entry.specs.declared.opcode.IoOpcode.{IoOpcode}
use Rattle.nv_entry.specs.declared.opcode.IoOpcode.TheVariants.{Flush, Write, Read, Compare, WriteZeroes, DatasetManagement}
use Rattle.nv_mem.specs.Places.{At, places_of, total_len}
use Rattle.nv_model.specs.Carried.{block_work, units_moved}
use Rattle.nv_model.specs.Judge.{Clear, ClearBlock, Form, Keep, KeepAll, Manage, MoveBlock, Transfer, Work, WorkUnit, deallocates, form_has_blocks}
use Rattle.nv_model.specs.Judge.{form_of, has_blocks, is_fua, is_read, one_range_units}
use Rattle.nv_model.specs.Limits.{block}
use Rattle.nv_model.specs.Memory.{gathered, scattered}
use Rattle.nv_model.specs.Private.{Moved, block_bytes, numbers_of, places_of_block}
use Rattle.nv_model.proofs.UnitsElsewhere.{units-memory}
use Rattle.nv_ns.specs.Extents.{blocks_in, place_in}
use Rattle.nv_ns.specs.Laws.{AreApart}
use Rattle.nv_world_model.specs.Area.{addresses_of, bounce_page, physical_entry, tag_count}
use Rattle.nv_world_model.specs.Device.{Held, device_unit, form_moves, moved_by, range_at}
use Rattle.nv_world_model.specs.Geometry.{Geometry, Guest}
use Rattle.nv_world_model.specs.Share.{Share}
use Rattle.nv_world_model.specs.ShareArea.{work_dwords}
use Rattle.nv_world_model.specs.Seat.{form_numbers}
use Rattle.nv_laws_sound.specs.Consistent.{IsInDevice}
use Rattle.nv_laws_sound.specs.LaidOut.{IsLaidOut}
use Rattle.nv_laws_sound.proofs.EntryFields.{entry-opcode, own_units as units_counted}
use Rattle.nv_laws_sound.proofs.Namespaces.{place-disk}
use Rattle.nv_laws_sound.proofs.OwnWork.{own_len}
use Rattle.nv_laws_sound.proofs.PlanSizes.{HasCount}
use Rattle.nv_laws.specs.Units.{SameBlocks, addresses_of_block, part_units}
use Rattle.nv_laws.proofs.units.Blocks.{block-bytes, block-same, clear-same, keep-same, range-same}
use Rattle.nv_laws.proofs.units.Flags.{form-fua, manage-deallocates}
use Rattle.nv_laws.proofs.units.OwnDisk.{block-below, entry-block, entry-built, few-blocks, range-block, range-fields, range-row, range-there}
use Rattle.nv_laws.proofs.units.OwnDisk.{unit-below, unit-below_blocks}
use Rattle.nv_laws.proofs.units.OwnShares.{AreUnitsOf, IsOwnShare}
use Rattle.nv_laws.proofs.units.OwnUnits.{own-one, own-range}

-- ---- a unit of a form

-- a command whose units are the device's
one-numbered : (form : Form) (work : Work) → (form ≡ Manage → ⊥) → form_numbers form work ≡ numbers_of work
one-numbered (Transfer dest) work other = refl
one-numbered Clear work other = refl
one-numbered Manage work other = absurd (other refl)
one-numbered Keep work other = refl

-- what a unit of a Read does to a memory, and what other units do
read-moves : (opcode : IoOpcode) (number disk_blocks : ℕ) (h : Held) (fua : Bool) (m : Moved) → is_read opcode ≡ true
    → (units_moved (form_moves (form_of opcode) number disk_blocks h m.memory) (block_work opcode h.pieces fua) m).memory
    ≡ scattered m.memory (take block (drop (block * number) (places_of h.pieces))) (block_bytes m.disk (slba_of h.entry + number))
unfolding units_moved
read-moves Read number disk_blocks h fua m reads = refl
read-moves Write number disk_blocks h fua m reads = cc
read-moves Compare number disk_blocks h fua m reads = cc
read-moves WriteZeroes number disk_blocks h fua m reads = cc
read-moves DatasetManagement number disk_blocks h fua m reads = cc
read-moves Flush number disk_blocks h fua m reads = cc

read-works : (opcode : IoOpcode) (work : Work) (index lba : ℕ) (m : Moved) → work.opcode ≡ opcode → is_read opcode ≡ true
    → (units_moved (MoveBlock index lba ∷ []) work m).memory ≡ scattered m.memory (places_of_block work index) (block_bytes m.disk lba)
unfolding units_moved
read-works Read work index lba m is reads = rw is refl
read-works Write work index lba m is reads = cc
read-works Compare work index lba m is reads = cc
read-works WriteZeroes work index lba m is reads = cc
read-works DatasetManagement work index lba m is reads = cc
read-works Flush work index lba m is reads = cc

-- a Read transfers
pub read-form : (opcode : IoOpcode) → is_read opcode ≡ true → form_of opcode ≡ Transfer true
read-form Read reads = refl
read-form Write reads = cc
read-form Compare reads = cc
read-form WriteZeroes reads = cc
read-form DatasetManagement reads = cc
read-form Flush reads = cc

-- ---- a unit of a share in the device

module _ (host_bytes lanes : ℕ) (geometry : Geometry) (laid : IsLaidOut host_bytes lanes geometry) (owner : ℕ) (guest : Guest)
    (given : slice_get geometry.guests owner ≡ Some guest) (entry : List ℕ) (share : Share) (part : Work) (is : IsOwnShare guest entry share part)
    (count : HasCount (form_of part.opcode) part) (lane tag : ℕ)
    (tag_below : tag < tag_count) (h : Held) (host : ℕ → ℕ) (in_device : IsInDevice geometry guest entry share lane tag host h) (number : ℕ)
    (left : list_any (λ k. k == number) h.left ≡ true) where
  abbrev bounce : ℕ
  bounce = bounce_page geometry.mediator lane tag

  -- its opcode, and what of the guest's entry its own says
  pub opcode-is : io_opcode (opcode_of h.entry) ≡ Some part.opcode
  opcode-is =
      ap (λ e. io_opcode (opcode_of e)) in_device.entry_is ∙ ap io_opcode (entry-opcode share guest entry geometry.mediator lane tag tag_below) ∙ is.opcode

  fua-is : has_blocks part.opcode ≡ true → is_fua h.entry ≡ is_fua entry
  fua-is has =
      ap is_fua in_device.entry_is
      ∙ entry-built host_bytes lanes geometry laid owner guest given entry share part is count lane tag (λ e. is_fua e ≡ is_fua entry)
      (λ prps. form-fua (form_of part.opcode) (opcode_of entry) tag prps guest.namespace entry part has count)

  deallocates-is : form_of part.opcode ≡ Manage → deallocates h.entry ≡ deallocates entry
  deallocates-is form =
      ap deallocates in_device.entry_is
      ∙ entry-built host_bytes lanes geometry laid owner guest given entry share part is count lane tag (λ e. deallocates e ≡ deallocates entry)
      (λ prps. ap (λ f. deallocates (physical_entry (opcode_of entry) tag prps (work_dwords f guest.namespace entry part))) form
      ∙ manage-deallocates (opcode_of entry) tag prps guest.namespace entry part)

  below : number < units_counted (form_of part.opcode) part
  below = unit-below host_bytes lanes geometry laid owner guest given entry share part is count lane tag h host in_device number left

  below-blocks : has_blocks part.opcode ≡ true → number < length part.units
  below-blocks = unit-below_blocks host_bytes lanes geometry laid owner guest given entry share part is count lane tag h host in_device number left

  -- its places in the host are the plan's
  places-are : take block (drop (block * number) (places_of h.pieces)) ≡ addresses_of_block share.plan guest bounce number
  places-are =
      ap (λ ps. take block (drop (block * number) ps)) in_device.places
      ∙ ap (take block) (drop-map At (block * number) (addresses_of share.plan guest bounce))
      ∙ take-map At block (drop (block * number) (addresses_of share.plan guest bounce))

  -- a unit of a transfer is one of its blocks
  pub unit-within : (dest : Bool) → form_of part.opcode ≡ Transfer dest → block * number + block ≤ total_len part.pieces
  unit-within dest form =
      let few : number < length part.units = below-blocks (ap form_has_blocks form) in
      let total : total_len part.pieces ≡ block * length part.units = is.total ∙ ap (λ f. own_len f part) form in
      omega (arith, few, total)

  -- ---- its blocks

  abbrev flag : Bool
  flag = has_blocks part.opcode && is_fua h.entry

  -- the block that it stands for
  abbrev at : ℕ
  at = slba_of entry + (is.first + number)

  -- the work's own units behind it
  own-block : (form : Form) → form_of part.opcode ≡ form → (form ≡ Manage → ⊥) → (unit : WorkUnit)
      → slice_get part.units number ≡ Some unit → part_units part number ≡ unit ∷ []
  own-block form same other unit found =
      own-one part number unit (ap (λ f. form_numbers f part) same ∙ one-numbered form part other) found

  units-by : (form : Form) → form_of part.opcode ≡ form → AreUnitsOf form guest.namespace entry is.first part
  units-by form same = subst (λ f. AreUnitsOf f guest.namespace entry is.first part) same is.units

  -- a block is one of the guest's, and the device's is where the disk has it
  at-below : has_blocks part.opcode ≡ true → at < blocks_in guest.namespace
  at-below has = block-below host_bytes lanes geometry laid owner guest given entry share part is count lane tag has number (below-blocks has)

  there-is : has_blocks part.opcode ≡ true → slba_of h.entry + number ≡ place_in guest.namespace at
  there-is has =
      ap (λ e. slba_of e + number) in_device.entry_is
      ∙ entry-block host_bytes lanes geometry laid owner guest given entry share part is count lane tag has number (below-blocks has)

  apart : AreApart guest.namespace
  apart = (laid.given owner guest given).apart

  module _ (own whole : Moved) (same : SameBlocks guest.namespace own whole) (memory_is : whole.memory ≡ host)
      (source : form_of part.opcode ≡ Transfer false → gathered own.memory (places_of_block part number) ≡ gathered host (addresses_of_block share.plan guest bounce number)) where
    fua-same : has_blocks part.opcode ≡ true → part.fua ≡ flag
    fua-same has = is.fua ∙ ap (λ f. has_blocks part.opcode && f) (sym (fua-is has))

    source-same : form_of part.opcode ≡ Transfer false
        → gathered own.memory (places_of_block part number) ≡ gathered whole.memory (places_of_block (block_work part.opcode h.pieces flag) number)
    source-same form = source form ∙ sym (ap (λ ps. gathered host ps) places-are) ∙ sym (ap (λ m. gathered m (take block (drop (block * number) (places_of h.pieces)))) memory_is)

    form-same : (form : Form) → form_of part.opcode ≡ form
        → SameBlocks guest.namespace (units_moved (part_units part number) part own)
        (units_moved (form_moves form number geometry.disk_blocks h whole.memory) (block_work part.opcode h.pieces flag) whole)
    unfolding units_moved
    form-same (Transfer dest) form =
        let has : has_blocks part.opcode ≡ true = ap form_has_blocks form in
        subst (λ us. SameBlocks guest.namespace (units_moved us part own)
        (units_moved (MoveBlock number (slba_of h.entry + number) ∷ []) (block_work part.opcode h.pieces flag) whole))
        (sym (own-block (Transfer dest) form (λ e. cc) (MoveBlock number at) (units-by (Transfer dest) form number (below-blocks has))))
        (block-same guest.namespace apart part.opcode part (block_work part.opcode h.pieces flag) number at (slba_of h.entry + number) own whole same
        (at-below has) (there-is has) (fua-same has) source-same)
    form-same Clear form =
        let has : has_blocks part.opcode ≡ true = ap form_has_blocks form in
        subst (λ us. SameBlocks guest.namespace (units_moved us part own)
        (units_moved (ClearBlock (slba_of h.entry + number) (is_fua h.entry) ∷ []) (block_work part.opcode h.pieces flag) whole))
        (sym (own-block Clear form (λ e. cc) (ClearBlock at (is_fua entry)) (units-by Clear form number (below-blocks has))))
        (clear-same guest.namespace apart at (slba_of h.entry + number) (is_fua entry) (is_fua h.entry)
        part (block_work part.opcode h.pieces flag) own whole same (at-below has) (there-is has) (sym (fua-is has)))
    form-same Manage form =
        let range = range-there host_bytes lanes geometry laid owner guest given entry share part is count lane tag h host in_device number left form in
        let row = range-row host_bytes lanes geometry laid owner guest given entry share part is count lane tag h host in_device number left form range.0 range.1 in
        let fields = range-fields host_bytes lanes geometry laid owner guest given entry share part is count lane tag h host in_device number left form range.0 range.1 in
        subst (λ us. SameBlocks guest.namespace (units_moved us part own)
        (units_moved (one_range_units (deallocates h.entry) (range_at number h.pieces whole.memory)) (block_work part.opcode h.pieces flag) whole))
        (sym (own-range part number (deallocates entry) range.0 (ap (λ f. form_numbers f part) form)
        (units-by Manage form (few-blocks host_bytes lanes geometry laid owner guest given entry share part is count lane tag)) range.1))
        (subst (λ d. SameBlocks guest.namespace (units_moved (one_range_units d range.0) part own)
        (units_moved (one_range_units (deallocates h.entry) (range_at number h.pieces whole.memory)) (block_work part.opcode h.pieces flag) whole)) (deallocates-is form)
        (subst (λ m. SameBlocks guest.namespace (units_moved (one_range_units (deallocates h.entry) range.0) part own)
        (units_moved (one_range_units (deallocates h.entry) (range_at number h.pieces m)) (block_work part.opcode h.pieces flag) whole)) (sym memory_is)
        (range-same guest.namespace apart (deallocates h.entry) range.0 (range_at number h.pieces host) part (block_work part.opcode h.pieces flag) own whole same
        row.within
        (λ i under. sym (range-block host_bytes lanes geometry laid owner guest given entry share part is count lane tag h host in_device number left form range.0 range.1 i under))
        fields.1)))
    form-same Keep form =
        let few : number < 1 = subst (λ f. number < units_counted f part) form below in
        let first : 0 ≡ number = omega (arith, few) in
        subst (λ us. SameBlocks guest.namespace (units_moved us part own)
        (units_moved (KeepAll geometry.disk_blocks ∷ []) (block_work part.opcode h.pieces flag) whole))
        (sym (own-block Keep form (λ e. cc) (KeepAll (blocks_in guest.namespace))
        (ap (λ us. slice_get us number) (units-by Keep form)
        ∙ subst (λ n. slice_get (KeepAll (blocks_in guest.namespace) ∷ []) n ≡ Some (KeepAll (blocks_in guest.namespace))) first refl)))
        (keep-same guest.namespace apart (blocks_in guest.namespace) geometry.disk_blocks part (block_work part.opcode h.pieces flag) own whole same refl
        (λ lba within. place-disk host_bytes geometry.disk_blocks lba guest (laid.given owner guest given) within))

  -- the guest's blocks are the same behind it, and whether a Compare has differed
  pub unit-same : (own : Moved) (disk : ℕ → ℕ → ℕ) (kept : ℕ → Bool)
      → SameBlocks guest.namespace own (record { memory = host; disk = disk; kept = kept; differed = h.differed })
      → (form_of part.opcode ≡ Transfer false → gathered own.memory (places_of_block part number) ≡ gathered host (addresses_of_block share.plan guest bounce number))
      → SameBlocks guest.namespace (units_moved (part_units part number) part own) (device_unit number geometry.disk_blocks h host disk kept)
  unfolding device_unit
  unit-same own disk kept same source =
      let m : Moved = record { memory = host; disk = disk; kept = kept; differed = h.differed } in
      subst (λ o. SameBlocks guest.namespace (units_moved (part_units part number) part own) (moved_by o number geometry.disk_blocks h m)) (sym opcode-is)
      (form-same own m same refl source (form_of part.opcode) refl)

  -- ---- its bytes

  -- a Read's block reaches its places in the one memory and their addresses in the other
  pub read-own : (own : Moved) → is_read part.opcode ≡ true
      → (units_moved (part_units part number) part own).memory ≡ scattered own.memory (places_of_block part number) (block_bytes own.disk at)
  read-own own reads =
      let form = read-form part.opcode reads in
      ap (λ us. (units_moved us part own).memory)
      (own-block (Transfer true) form (λ e. cc) (MoveBlock number at) (units-by (Transfer true) form number (below-blocks (ap form_has_blocks form))))
      ∙ read-works part.opcode part number at own refl reads

  pub read-host : (disk : ℕ → ℕ → ℕ) (kept : ℕ → Bool) → is_read part.opcode ≡ true
      → (device_unit number geometry.disk_blocks h host disk kept).memory
      ≡ scattered host (addresses_of_block share.plan guest bounce number) (block_bytes disk (place_in guest.namespace at))
  unfolding device_unit
  read-host disk kept reads =
      let m : Moved = record { memory = host; disk = disk; kept = kept; differed = h.differed } in
      let form = read-form part.opcode reads in
      ap (λ o. (moved_by o number geometry.disk_blocks h m).memory) opcode-is
      ∙ read-moves part.opcode number geometry.disk_blocks h flag m reads
      ∙ ap (λ ps. scattered host ps (block_bytes disk (slba_of h.entry + number))) places-are
      ∙ ap (λ x. scattered host (addresses_of_block share.plan guest bounce number) (block_bytes disk x)) (there-is (ap form_has_blocks form))

  -- the bytes are the same in both
  pub read-bytes : (own : Moved) (disk : ℕ → ℕ → ℕ) (kept : ℕ → Bool) → is_read part.opcode ≡ true
      → SameBlocks guest.namespace own (record { memory = host; disk = disk; kept = kept; differed = h.differed })
      → block_bytes own.disk at ≡ block_bytes disk (place_in guest.namespace at)
  read-bytes own disk kept reads same =
      let form = read-form part.opcode reads in
      block-bytes guest.namespace apart own.disk disk at (place_in guest.namespace at) refl
      (λ offset. same.bytes at offset (at-below (ap form_has_blocks form)))

  -- other units change no byte
  pub others-own : (own : Moved) → is_read part.opcode ≡ false → (units_moved (part_units part number) part own).memory ≡ own.memory
  others-own own other = units-memory (part_units part number) part own other

  pub others-host : (disk : ℕ → ℕ → ℕ) (kept : ℕ → Bool) → is_read part.opcode ≡ false
      → (device_unit number geometry.disk_blocks h host disk kept).memory ≡ host
  unfolding device_unit
  others-host disk kept other =
      let m : Moved = record { memory = host; disk = disk; kept = kept; differed = h.differed } in
      ap (λ o. (moved_by o number geometry.disk_blocks h m).memory) opcode-is
      ∙ units-memory (form_moves (form_of part.opcode) number geometry.disk_blocks h host) (block_work part.opcode h.pieces flag) m other
