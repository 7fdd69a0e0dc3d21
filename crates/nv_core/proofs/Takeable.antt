-- The physical entry of a share is one that the device may take: what it names lies in the host, and its blocks on the disk.
use Rattle.std.proofs.Common.{◌≡◌, ℕ, suc, ◌+◌, ◌-◌, ◌%◌, ◌<◌, ◌≤◌, ◌⊎◌, inl, inr, Bool, true, false, cond, List, [], ◌∷◌, length, map, slice_get}
use Rattle.std.proofs.Common.{Option, Some, None, arith, refl, sym, ap, ◌∙◌, subst}
use Rattle.std.specs.List.{filter}
use Rattle.std.proofs.lemmas.Bool.{ne_eqb}
use Rattle.std.proofs.lemmas.List.Elements.{All-map}
use Rattle.nv_entry.specs.Opcode.{io_opcode}
use Rattle.nv_entry.specs.Submission.{opcode_of, prp1_of, prp2_of, slba_of}
use Rattle.nv_mem.specs.Places.{At, places_of}
use Rattle.nv_mem.specs.declared.piece.Piece.{Piece}
use Rattle.nv_model.specs.Dialogue.{in_memory}
use Rattle.nv_model.specs.Judge.{Clear, Form, Keep, Manage, Transfer, Work, count_of, form_has_blocks, form_has_buffer, form_of, form_transfer_len, transfer_len}
use Rattle.nv_model.specs.Limits.{most_bytes}
use Rattle.nv_model.specs.Memory.{byte_in}
use Rattle.nv_model.specs.Prp.{first_len, pages_of, read_prp}
use Rattle.nv_model.specs.Reading.{Faulty, Reading, Spells, TooLong}
use Rattle.nv_disk.specs.Buffer.{AreBelow, IsBelow}
use Rattle.nv_prp.specs.Built.{built, prp2_by, starts_page}
use Rattle.nv_prp.specs.Fits.{fit_behind, fit_prp, may_follow}
use Rattle.nv_prp.proofs.Pages.{Paged-fit, both, room_from}
use Rattle.nv_world_model.specs.Area.{addresses_of, bounce_page, list_bytes, list_page, prps_of, tag_count}
use Rattle.nv_world_model.specs.Device.{Held, pieces_named, pieces_spelled}
use Rattle.nv_world_model.specs.Geometry.{Geometry, Guest}
use Rattle.nv_world_model.specs.Share.{Share}
use Rattle.nv_world_model.specs.ShareArea.{is_no_command, share_entry}
use Rattle.nv_device.specs.Pages.{host_reading, spells}
use Rattle.nv_device.specs.Physical.{len_of, names_blocks}
use Rattle.nv_device.specs.Taking.{IsTakeable}
use Rattle.nv_device.proofs.HostReads.{IsListIn, host_reading-there}
use Rattle.nv_laws_sound.specs.Area.{Shows}
use Rattle.nv_laws_sound.specs.Consistent.{IsPlanned}
use Rattle.nv_laws_sound.specs.LaidOut.{IsLaidOut}
use Rattle.nv_laws_sound.proofs.EntryFields.{entry-cid, own_units}
use Rattle.nv_laws_sound.proofs.HeldEntries.{addresses-below, physical-opcode, plan-counts, plan-lengths, plan-prps, plan-reads}
use Rattle.nv_laws_sound.proofs.Namespaces.{own-ends}
use Rattle.nv_laws_sound.proofs.OnDisk.{blocks-counted, entry-own, entry-row}
use Rattle.nv_laws_sound.proofs.OwnWork.{own-of}
use Rattle.nv_laws_sound.proofs.PlanSizes.{addresses-nameable, own-few, own_work}

-- ---- the list

prp2-list : (list : ℕ) (entries : List ℕ) → 1 < length entries → prp2_by list entries ≡ list
prp2-list list [] more = absurd (omega arith)
prp2-list list (entry ∷ []) more = absurd (omega arith)
prp2-list list (entry ∷ next ∷ entries) more = refl

-- where more than one page lies behind the first, PRP2 names the list
listed-some : (list addr : ℕ) (addresses : List ℕ) → fit_behind None (addr ∷ addresses) ≡ true
    → 1 < pages_of (suc (length addresses) - first_len addr (suc (length addresses)))
    → prp2_by list (filter starts_page addresses) ≡ list
unfolding fit_behind
listed-some list addr addresses fit more =
    let parts = both (may_follow None addr) (fit_behind (Some (addr + 1)) addresses) fit in
    let count = (Paged-fit (addr + 1) addresses parts.1).count in
    let n = suc (length addresses) in
    let left : n - first_len addr n ≡ length addresses - room_from (addr + 1) = omega arith in
    let pages : pages_of (n - first_len addr n) ≡ length (filter starts_page addresses) = ap (λ (k : ℕ). pages_of k) left ∙ sym count in
    prp2-list list (filter starts_page addresses) (omega (arith, more, pages))

list-named : (list : ℕ) (addresses : List ℕ) → fit_prp addresses ≡ true
    → 1 < pages_of (length addresses - first_len (built list addresses).prp1 (length addresses)) → (built list addresses).prp2 ≡ list
unfolding built
list-named list [] fit more = absurd (omega arith)
list-named list (addr ∷ addresses) fit more = listed-some list addr addresses fit more

-- ---- the reading

-- what has places spells them
spelt-by : (r : Reading) (addresses : List ℕ) → 0 < length addresses → places_of (pieces_spelled r) ≡ map At addresses
    → (pieces : List Piece) × ((r ≡ Spells pieces) × (places_of pieces ≡ map At addresses))
spelt-by (Spells pieces) addresses some is = (pieces, (refl, is))
spelt-by (Faulty code) [] some is = absurd (omega arith)
spelt-by (Faulty code) (addr ∷ addresses) some is = absurd (cc)
spelt-by TooLong [] some is = absurd (omega arith)
spelt-by TooLong (addr ∷ addresses) some is = absurd (cc)

-- what transfers bytes has a buffer
buffer-some : (form : Form) (entry : List ℕ) → 0 < form_transfer_len form entry → form_has_buffer form ≡ true
buffer-some (Transfer dest) entry some = refl
buffer-some Clear entry some = absurd (omega arith)
buffer-some Manage entry some = refl
buffer-some Keep entry some = absurd (omega arith)

-- addresses that fit, where there are some
fit-some : (addresses : List ℕ) → 0 < length addresses → (fit_prp addresses ≡ true) ⊎ (addresses ≡ []) → fit_prp addresses ≡ true
fit-some addresses some (inl fit) = fit
fit-some addresses some (inr none) = (let n = ap length none in absurd (omega arith))

-- a work with blocks has a unit for each
units-counted : (form : Form) (own : Work) → form_has_blocks form ≡ true → own_units form own ≡ length own.units
units-counted (Transfer dest) own has = refl
units-counted Clear own has = refl
units-counted Manage own has = cc
units-counted Keep own has = cc

module _ (lanes : ℕ) (geometry : Geometry) (host : List ℕ) (laid : IsLaidOut (length host) lanes geometry) (owner : ℕ) (guest : Guest)
    (given : slice_get geometry.guests owner ≡ Some guest) (lane tag : ℕ) (below : lane < lanes) (tag_below : tag < tag_count)
    (entry : List ℕ) (share : Share) (is : IsPlanned guest entry share) where
  abbrev list : ℕ
  list = list_page geometry.mediator lane tag

  abbrev bounce : ℕ
  bounce = bounce_page geometry.mediator lane tag

  abbrev physical : List ℕ
  physical = share_entry share guest.namespace guest entry geometry.mediator lane tag

  abbrev addresses : List ℕ
  addresses = addresses_of share.plan guest bounce

  abbrev own : Work
  own = own_work guest entry share is

  -- the bytes of a share's transfer lie in the host
  pub places-below : AreBelow (length host) (map At addresses)
  places-below =
      All-map (IsBelow (length host)) At addresses
      (addresses-below (length host) lanes geometry owner guest entry share lane tag laid given below tag_below is)

  module _ (some : is_no_command share ≡ false) where
    -- and so does its list
    list-there : (n : ℕ) → 0 < n → n ≤ most_bytes → length addresses ≡ n
        → 1 < pages_of (n - first_len (prp1_of physical) n)
        → IsListIn (length host) (pages_of (n - first_len (prp1_of physical) n)) (prp2_of physical)
    list-there n any few count more =
        let pages = laid.pages in
        let area = laid.area in
        let prps = plan-prps (length host) lanes geometry laid owner guest given lane tag below tag_below entry share is some (byte_in host) in
        let aligned : bounce % 4 ≡ 0 = omega (arith, pages) in
        let fit = fit-some addresses (omega (arith, any, count)) (addresses-nameable guest entry share bounce aligned is).fit in
        let more_there : 1 < pages_of (length addresses - first_len (built list addresses).prp1 (length addresses)) =
        subst (λ p. 1 < pages_of (length addresses - first_len p (length addresses))) prps.0
        (subst (λ k. 1 < pages_of (k - first_len (prp1_of physical) k)) (sym count) more) in
        let named : prp2_of physical ≡ list = prps.1 ∙ list-named list addresses fit more_there in
        let starts : list % 4096 ≡ 0 = omega (arith, pages) in
        let within : list + 4096 ≤ length host = omega (arith, area, below, tag_below) in
        let short : pages_of (n - first_len (prp1_of physical) n) ≤ 33 = omega (arith, few) in
        subst (IsListIn (length host) (pages_of (n - first_len (prp1_of physical) n))) (sym named)
        (record { fits = omega (arith, starts, short); there = omega (arith, within, short) })

    -- so the device reads it
    entry-read : Shows (byte_in host) list (list_bytes (prps_of share.plan guest list bounce)) → 0 < transfer_len is.work.opcode physical
        → spells (host_reading host (prp1_of physical) (prp2_of physical) (transfer_len is.work.opcode physical)) ≡ true
    entry-read shown any =
        let n = transfer_len is.work.opcode physical in
        let memory = byte_in host in
        let same = (plan-lengths (length host) lanes geometry laid owner guest given lane tag below tag_below entry share is some memory).0 in
        let total = (own-of guest entry share is).total in
        let short = own-few guest entry share is in
        let has = buffer-some (form_of is.work.opcode) physical any in
        let count : length addresses ≡ n =
        plan-counts (length host) lanes geometry laid owner guest given lane tag below tag_below entry share is some memory has ∙ sym same in
        let reads = plan-reads (length host) lanes geometry laid owner guest given lane tag below tag_below entry share is some memory shown in
        let named : places_of (pieces_named n physical memory) ≡ map At addresses =
        sym (ap (λ (b : Bool). places_of (cond b [] (pieces_named n physical memory))) (ne_eqb n 0 (λ none. absurd (omega (arith, none, any))))) ∙ reads in
        let spelt = spelt-by (in_memory memory (read_prp (λ _. true) (prp1_of physical) (prp2_of physical) n)) addresses (omega (arith, count, any)) named in
        ap spells
        (host_reading-there host (prp1_of physical) (prp2_of physical) n spelt.0 spelt.1.0 (subst (AreBelow (length host)) (sym spelt.1.1) places-below)
        (list-there n any (omega (arith, same, total, short)) count))

    -- its blocks end on the disk
    entry-ends : form_has_blocks (form_of is.work.opcode) ≡ true → slba_of physical + count_of physical ≤ geometry.disk_blocks
    entry-ends has =
        let row = entry-row (length host) lanes geometry laid owner guest given entry share is lane tag has in
        let lies = entry-own (length host) lanes geometry laid owner guest given entry share is lane tag has in
        let ends = own-ends (length host) geometry.disk_blocks (slba_of physical) (length own.units) guest (laid.given owner guest given) lies row.some in
        let units = (plan-lengths (length host) lanes geometry laid owner guest given lane tag below tag_below entry share is some (byte_in host)).1 in
        let count : count_of physical ≡ length own.units =
        sym (blocks-counted (form_of is.work.opcode) physical has) ∙ units ∙ units-counted (form_of is.work.opcode) own has in
        omega (arith, ends, count)

    -- and may take it
    pub entry-takeable : (blocks : ℕ) (held : Option Held) → geometry.disk_blocks ≡ blocks → held ≡ None
        → Shows (byte_in host) list (list_bytes (prps_of share.plan guest list bounce)) → IsTakeable blocks host held physical
    entry-takeable blocks held disk free shown =
        let opcode : io_opcode (opcode_of physical) ≡ Some is.work.opcode =
        physical-opcode (length host) lanes geometry laid owner guest given lane tag below tag_below entry share is some (byte_in host) share.plan in
        record {
          bytes =
              subst (λ o. 0 < len_of o physical → spells (host_reading host (prp1_of physical) (prp2_of physical) (len_of o physical)) ≡ true) (sym opcode)
              (entry-read shown);
          blocks =
              subst (λ o. names_blocks o ≡ true → slba_of physical + count_of physical ≤ blocks) (sym opcode)
              (λ has. (let ends = entry-ends has in omega (arith, ends, disk)));
          identifier = subst (λ n. n < tag_count) (sym (entry-cid share guest entry geometry.mediator lane tag tag_below)) tag_below;
          free = free;
        }
