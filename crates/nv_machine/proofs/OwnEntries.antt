-- The physical entry of a share names bytes and blocks of its guest alone.
use Rattle.std.proofs.Common.{◌≡◌, ℕ, zero, suc, ◌+◌, ◌*◌, ◌/◌, ◌^◌, ◌<◌, ◌≤◌, inl, inr, true, false, ◌||◌, ◌==◌, is_some, List, All}
use Rattle.std.proofs.Common.{length, slice_get, Some, arith, refl, sym, ap, ◌∙◌, subst, mod-lt, eq-eqb}
use Rattle.std.specs.List.{list_any, range_with_len}
use Rattle.std.proofs.lemmas.Bool.{cases_lt}
use Rattle.std.proofs.lemmas.List.{length-map}
use Rattle.std.proofs.lemmas.List.Elements.{All-map, All-nil}
use Rattle.nv_entry.specs.Layout.{bits, dword}
use Rattle.nv_entry.specs.Opcode.{io_opcode}
use Rattle.nv_entry.specs.Range.{blocks_of, start_of}
use Rattle.nv_entry.specs.Submission.{fuse_of, opcode_of, psdt_of, slba_of}
use Rattle.nv_entry.specs.declared.opcode.IoOpcode.{IoOpcode}
use Rattle.nv_laws_sound.specs.Area.{Shows, ranges_of}
use Rattle.nv_laws_sound.specs.Consistent.{IsInDevice, IsPlanned}
use Rattle.nv_laws_sound.specs.LaidOut.{IsLaidOut}
use Rattle.nv_laws_sound.proofs.EntryFields.{dword-there, entry-cid, own_units}
use Rattle.nv_laws_sound.proofs.HeldEntries.{held-all, held-left, held-places, physical-opcode, plan-counts, plan-lengths}
use Rattle.nv_laws_sound.proofs.Lists.{some-same}
use Rattle.nv_laws_sound.proofs.Named.{hosts-all, row-all}
use Rattle.nv_laws_sound.proofs.OnDisk.{blocks-counted, entry-own, entry-units, range-own}
use Rattle.nv_laws_sound.proofs.OwnWork.{own_len}
use Rattle.nv_laws_sound.proofs.PlanSizes.{entry-length, own-few, own_work, planned-by, planned-kinds}
use Rattle.nv_machine.specs.Entries.{AreBlocksOf, IsOwnByte, IsOwnEntry, NamesOwn}
use Rattle.nv_mem.proofs.Images.{guest_of-host}
use Rattle.nv_mem.specs.Places.{At, places_of, total_len}
use Rattle.nv_model.specs.Judge.{Clear, Form, Keep, Manage, Transfer, Work, count_of, form_has_blocks, form_has_buffer, form_of, has_blocks, has_buffer, range_count_of, transfer_len}
use Rattle.nv_model.specs.Limits.{most_bytes}
use Rattle.nv_world_model.specs.Area.{addresses_of, bounce_page, list_bytes, list_page, physical_entry, prps_of, tag_count}
use Rattle.nv_world_model.specs.Device.{form_unit_count, held_of, range_at}
use Rattle.nv_world_model.specs.Geometry.{Geometry, Guest, regions_of}
use Rattle.nv_world_model.specs.Share.{Share}
use Rattle.nv_world_model.specs.ShareArea.{is_no_command, share_entry}

-- ---- fields

-- an opcode is a byte
opcode-byte : (entry : List ℕ) → opcode_of entry < 256
unfolding bits
opcode-byte entry = mod-lt (dword entry 0 / 2 ^ 0) (omega arith)

-- the first dword holds the opcode and the tag
first-dword : (share : Share) (guest : Guest) (entry : List ℕ) (mediator lane tag : ℕ) → tag < tag_count
    → dword (share_entry share guest.namespace guest entry mediator lane tag) 0 ≡ opcode_of entry + 2 ^ 16 * tag
unfolding physical_entry
first-dword share guest entry mediator lane tag below =
    let byte = opcode-byte entry in
    dword-there _ 0 (opcode_of entry + 2 ^ 16 * tag) refl (omega (arith, byte, below))

between-parts : (opcode tag : ℕ) → opcode < 256 → (bits (opcode + 2 ^ 16 * tag) 9 8 ≡ 0) × (bits (opcode + 2 ^ 16 * tag) 15 14 ≡ 0)
unfolding bits
between-parts opcode tag byte = (omega arith, omega arith)

-- FUSE and PSDT are 0
entry-fuse : (share : Share) (guest : Guest) (entry : List ℕ) (mediator lane tag : ℕ) → tag < tag_count
    → fuse_of (share_entry share guest.namespace guest entry mediator lane tag) ≡ 0
entry-fuse share guest entry mediator lane tag below =
    ap {B = ℕ} (λ d. bits d 9 8) (first-dword share guest entry mediator lane tag below) ∙ (between-parts (opcode_of entry) tag (opcode-byte entry)).0

entry-psdt : (share : Share) (guest : Guest) (entry : List ℕ) (mediator lane tag : ℕ) → tag < tag_count
    → psdt_of (share_entry share guest.namespace guest entry mediator lane tag) ≡ 0
entry-psdt share guest entry mediator lane tag below =
    ap {B = ℕ} (λ d. bits d 15 14) (first-dword share guest entry mediator lane tag below) ∙ (between-parts (opcode_of entry) tag (opcode-byte entry)).1

-- ---- rows

-- a number of a row is among them
row-any : (from len n : ℕ) → from ≤ n → n < from + len → list_any (λ k. k == n) (range_with_len from len) ≡ true
row-any from zero n low high = absurd (omega arith)
row-any from (suc len) n low high =
    (elim (from == n) as (λ b. (from == n) ≡ b → (b || list_any (λ k. k == n) (range_with_len (from + 1) len)) ≡ true) [
      | true ↦ λ is. refl
      | false ↦ λ is. row-any (from + 1) len n (further is) (omega (arith, high))
    ]) refl
  where
    further : (from == n) ≡ false → from + 1 ≤ n
    further is =
        elim (cases_lt from n) [
          | inl less ↦ omega (arith, less)
          | inr most ↦ (let bad : true ≡ false = sym (eq-eqb from n (omega (arith, low, most))) ∙ is in cc)
        ]

-- a command with blocks has as many units as blocks
units-of_blocks : (form : Form) (own : Work) → form_has_blocks form ≡ true → own_units form own ≡ length own.units
units-of_blocks (Transfer dest) own has = refl
units-of_blocks Clear own has = refl
units-of_blocks Manage own has = cc
units-of_blocks Keep own has = cc

-- one without a buffer transfers nothing
none-moved : (form : Form) (own : Work) → form_has_buffer form ≡ false → own_len form own ≡ 0
none-moved (Transfer dest) own has = cc
none-moved Clear own has = refl
none-moved Manage own has = cc
none-moved Keep own has = refl

-- ---- the entry

module _ (host_bytes lanes : ℕ) (geometry : Geometry) (laid : IsLaidOut host_bytes lanes geometry) (owner : ℕ) (guest : Guest)
    (given : slice_get geometry.guests owner ≡ Some guest) (lane tag : ℕ) (below : lane < lanes) (tag_below : tag < tag_count)
    (entry : List ℕ) (share : Share) (is : IsPlanned guest entry share) where
  abbrev list : ℕ
  list = list_page geometry.mediator lane tag

  abbrev bounce : ℕ
  bounce = bounce_page geometry.mediator lane tag

  abbrev physical : List ℕ
  physical = share_entry share guest.namespace guest entry geometry.mediator lane tag

  abbrev own : Work
  own = own_work guest entry share is

  -- each address of the transfer is an own byte
  pub addresses-own : All (IsOwnByte geometry guest lane tag) (addresses_of share.plan guest bounce)
  addresses-own =
      let few : total_len own.pieces ≤ most_bytes = own-few guest entry share is in
      planned-kinds (λ p. All (IsOwnByte geometry guest lane tag) (addresses_of p guest bounce)) guest entry share is
      (All-nil (IsOwnByte geometry guest lane tag))
      (λ fits. hosts-all (IsOwnByte geometry guest lane tag) (regions_of guest) (places_of own.pieces) (λ addr host found.
      inl (ap is_some (guest_of-host (regions_of guest) addr host (laid.given owner guest given).sound.apart found))))
      (row-all (IsOwnByte geometry guest lane tag) bounce (total_len own.pieces) (λ at low high. inr (low, omega (arith, high, few))))

  module _ (some : is_no_command share ≡ false) where
    opcode-is : (opcode : IoOpcode) → io_opcode (opcode_of physical) ≡ Some opcode → is.work.opcode ≡ opcode
    opcode-is opcode names =
        some-same is.work.opcode opcode
        (sym (physical-opcode host_bytes lanes geometry laid owner guest given lane tag below tag_below entry share is some (λ _. 0) share.plan) ∙ names)

    units-are : form_unit_count (form_of is.work.opcode) physical ≡ own_units (form_of is.work.opcode) own
    units-are = entry-units host_bytes lanes geometry laid owner guest given entry share is lane tag some

    blocks-own : has_blocks is.work.opcode ≡ true → AreBlocksOf guest.namespace (slba_of physical) (count_of physical)
    blocks-own has =
        let count : count_of physical ≡ length own.units =
        sym (blocks-counted (form_of is.work.opcode) physical has) ∙ units-are ∙ units-of_blocks (form_of is.work.opcode) own has in
        subst (AreBlocksOf guest.namespace (slba_of physical)) (sym count)
        (entry-own host_bytes lanes geometry laid owner guest given entry share is lane tag has)

    module _ (host : ℕ → ℕ) (listed : Shows host list (list_bytes (prps_of share.plan guest list bounce))) where
      places-own : All (NamesOwn geometry guest lane tag) (places_of (held_of physical host).pieces)
      places-own =
          subst (All (NamesOwn geometry guest lane tag))
          (sym (held-places host_bytes lanes geometry laid owner guest given lane tag below tag_below entry share is some host listed))
          (All-map (NamesOwn geometry guest lane tag) At (addresses_of share.plan guest bounce) addresses-own)

      -- as many as bytes are transferred
      lengths-are : transfer_len is.work.opcode physical ≡ own_len (form_of is.work.opcode) own
      lengths-are = (plan-lengths host_bytes lanes geometry laid owner guest given lane tag below tag_below entry share is some host).0

      addresses-each : length (addresses_of share.plan guest bounce) ≡ own_len (form_of is.work.opcode) own
      addresses-each =
          (elim (has_buffer is.work.opcode) as (λ b. has_buffer is.work.opcode ≡ b
          → length (addresses_of share.plan guest bounce) ≡ own_len (form_of is.work.opcode) own) [
            | true ↦ λ has. plan-counts host_bytes lanes geometry laid owner guest given lane tag below tag_below entry share is some host has
            | false ↦ λ none.
                planned-by (λ p. length (addresses_of p guest bounce) ≡ 0) guest entry share is (λ _. refl)
                (λ has fits. (let bad : true ≡ false = sym has ∙ none in cc)) (λ has. (let bad : true ≡ false = sym has ∙ none in cc))
                ∙ sym (none-moved (form_of is.work.opcode) own none)
          ]) refl

      places-each : (opcode : IoOpcode) → io_opcode (opcode_of physical) ≡ Some opcode → length (places_of (held_of physical host).pieces) ≡ transfer_len opcode physical
      places-each opcode names =
          ap length (held-places host_bytes lanes geometry laid owner guest given lane tag below tag_below entry share is some host listed)
          ∙ length-map (addresses_of share.plan guest bounce) At ∙ addresses-each ∙ sym lengths-are ∙ ap (λ o. transfer_len o physical) (opcode-is opcode names)

      in-device : Shows host bounce (ranges_of share.plan guest) → IsInDevice geometry guest entry share lane tag host (held_of physical host)
      unfolding held_of
      in-device ranged =
          record {
            entry_is = refl;
            places = held-places host_bytes lanes geometry laid owner guest given lane tag below tag_below entry share is some host listed;
            left = held-left host_bytes lanes geometry laid owner guest given lane tag below tag_below entry share is some host;
            pages = record { list = listed; ranges = ranged };
          }

      ranges-own : Shows host bounce (ranges_of share.plan guest) → form_of is.work.opcode ≡ Manage → (number : ℕ) → number < range_count_of physical
          → AreBlocksOf guest.namespace (start_of (range_at number (held_of physical host).pieces host)) (blocks_of (range_at number (held_of physical host).pieces host))
      ranges-own ranged manages number few =
          let units : range_count_of physical ≡ own_units (form_of is.work.opcode) own =
          ap (λ f. form_unit_count f physical) (sym manages) ∙ units-are in
          let left : list_any (λ k. k == number) (held_of physical host).left ≡ true =
          ap (list_any (λ k. k == number)) (held-all host_bytes lanes geometry laid owner guest given lane tag below tag_below entry share is some host)
          ∙ row-any 0 (own_units (form_of is.work.opcode) own) number (omega arith) (omega (arith, units, few)) in
          range-own host_bytes lanes geometry laid owner guest given entry share is lane tag some (held_of physical host) host (in-device ranged) number left manages

    pub own-entry : IsOwnEntry geometry guest lane tag (list_bytes (prps_of share.plan guest list bounce)) (ranges_of share.plan guest) physical
    own-entry =
        record {
          size = entry-length share guest entry geometry.mediator lane tag;
          identifier = entry-cid share guest entry geometry.mediator lane tag tag_below;
          fuse = entry-fuse share guest entry geometry.mediator lane tag tag_below;
          psdt = entry-psdt share guest entry geometry.mediator lane tag tag_below;
          bytes = places-own;
          each = places-each;
          blocks = λ opcode names has. blocks-own (ap has_blocks (opcode-is opcode names) ∙ has);
          managed = λ host listed ranged opcode names manages number few. ranges-own host listed ranged (ap form_of (opcode-is opcode names) ∙ manages) number few;
        }
