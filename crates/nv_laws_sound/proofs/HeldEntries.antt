-- What the device makes of a physical entry: it finds the host addresses of the share's transfer.
use Rattle.std.proofs.Common.{◌≡◌, ℕ, ◌+◌, ◌-◌, ◌%◌, ◌^◌, ◌<◌, ◌≤◌, true, false, cond, ◌==◌, List, [], ◌∷◌, All, drop, flat_map, length, map, replicate}
use Rattle.std.proofs.Common.{slice_get, slice_index, take, Some, arith, refl, sym, ap, ◌∙◌, subst}
use Rattle.std.specs.List.{list_all, range_with_len}
use Rattle.std.proofs.lemmas.Bool.{ne_eqb}
use Rattle.std.proofs.Math.Seq.{take-append_seam}
use Rattle.std.proofs.lemmas.List.Elements.{All-drop, All-filter, All-head, All-nil, All-tail, All-weaker}
use Rattle.std.proofs.lemmas.List.FromFn.{length-range_with_len}
use Rattle.byteorder.specs.Numbers.{little_number-reads_back}
use Rattle.nv_entry.specs.Layout.{number_at, number_bytes}
use Rattle.nv_entry.specs.Opcode.{io_opcode}
use Rattle.nv_entry.specs.Submission.{opcode_of, prp1_of, prp2_of}
use Rattle.nv_mem.specs.GuestMap.{mapped}
use Rattle.nv_mem.specs.Places.{At, places_of, total_len}
use Rattle.nv_mem.proofs.Images.{host_of-inside}
use Rattle.nv_model.specs.Judge.{Clear, Form, Keep, Manage, Transfer, Work, form_has_buffer, form_of, form_transfer_len, has_buffer, transfer_len}
use Rattle.nv_model.specs.Limits.{most_bytes, page}
use Rattle.nv_model.specs.Memory.{bytes_from}
use Rattle.nv_model.specs.Reading.{Faulty, Reading, Spells, TooLong}
use Rattle.nv_model.proofs.AnyAnswers.{end-short, end-sound}
use Rattle.nv_model.proofs.Endings.{and-true}
use Rattle.nv_model.specs.Dialogue.{in_memory}
use Rattle.nv_model.specs.Prp.{read_prp}
use Rattle.nv_prp.specs.Built.{built, entries_of, listed, padded, prp2_by, starts_page}
use Rattle.nv_prp.specs.Spelled.{HoldsList, HoldsNumbers, SpellsAddresses, reading_of}
use Rattle.nv_prp.specs.Fits.{fit_prp, host_addresses, is_run, places_fit}
use Rattle.nv_prp.proofs.Builds.{fit-row}
use Rattle.nv_prp.proofs.HostRuns.{length-mapped_runs}
use Rattle.nv_prp.proofs.Spelling.{built-same, built-spells}
use Rattle.nv_world_model.specs.Area.{addresses_of, bounce_page, list_bytes, list_page, physical_entry, prps_of, tag_count}
use Rattle.nv_mem.specs.declared.piece.Piece.{Piece}
use Rattle.nv_world_model.specs.Device.{Held, form_unit_count, held_of, host_pieces, pieces_named, pieces_spelled, unit_count}
use Rattle.nv_world_model.specs.Geometry.{Geometry, Guest, regions_of, shape_of}
use Rattle.nv_world_model.specs.Plan.{Bounced, Direct, NoData, Plan}
use Rattle.nv_world_model.specs.Share.{Share}
use Rattle.nv_world_model.specs.ShareArea.{own_dwords, share_entry, work_dwords}
use Rattle.nv_world_model.specs.ShareArea.{is_no_command}
use Rattle.nv_laws_sound.specs.Area.{Shows}
use Rattle.nv_laws_sound.specs.Consistent.{IsPlanned}
use Rattle.nv_laws_sound.specs.LaidOut.{IsLaidOut}
use Rattle.nv_laws_sound.proofs.EntryFields.{entry-opcode, entry-prps, form-back, own_units}
use Rattle.nv_laws_sound.proofs.Named.{hosts-all, row-all}
use Rattle.nv_laws_sound.proofs.OwnWork.{own-of, own_len}
use Rattle.nv_laws_sound.proofs.PlanSizes.{HasCount, own-counts, own-few, own_work, planned-by, planned-kinds}
use Rattle.nv_laws_sound.proofs.Shows.{shows-append}

-- ---- addresses

-- a number has 64 bits at most
abbrev Fits64 : ℕ → Type 0
Fits64 number = number < 2 ^ 64

-- the addresses of a share lie in the host
pub addresses-below : (host_bytes lanes : ℕ) (geometry : Geometry) (owner : ℕ) (guest : Guest) (entry : List ℕ) (share : Share) (lane tag : ℕ)
    → IsLaidOut host_bytes lanes geometry → slice_get geometry.guests owner ≡ Some guest → lane < lanes → tag < tag_count
    → IsPlanned guest entry share → All (λ a. a < host_bytes) (addresses_of share.plan guest (bounce_page geometry.mediator lane tag))
addresses-below host_bytes lanes geometry owner guest entry share lane tag laid given below tag_below is =
    let own : Work = own_work guest entry share is in
    let few : total_len own.pieces ≤ most_bytes = own-few guest entry share is in
    let bounce = bounce_page geometry.mediator lane tag in
    let whose = laid.given owner guest given in
    let area = laid.area in
    let length = whose.host in
    planned-kinds (λ p. All (λ a. a < host_bytes) (addresses_of p guest bounce)) guest entry share is
    (All-nil (λ a. a < host_bytes))
    (λ fits. hosts-all (λ a. a < host_bytes) (regions_of guest) (places_of own.pieces) (λ addr host found.
    (let within = host_of-inside guest.memory_map.host_len (regions_of guest) addr host whose.sound.inside found in
    omega (arith, within, length))))
    (row-all (λ a. a < host_bytes) bounce (total_len own.pieces) (λ at low high. omega (arith, high, few, area, below, tag_below)))

-- so they have 64 bits at most
addresses-fit : (host_bytes lanes : ℕ) (geometry : Geometry) (owner : ℕ) (guest : Guest) (entry : List ℕ) (share : Share) (lane tag : ℕ)
    → IsLaidOut host_bytes lanes geometry → slice_get geometry.guests owner ≡ Some guest → lane < lanes → tag < tag_count
    → IsPlanned guest entry share → All Fits64 (addresses_of share.plan guest (bounce_page geometry.mediator lane tag))
addresses-fit host_bytes lanes geometry owner guest entry share lane tag laid given below tag_below is =
    let small = laid.few in
    All-weaker (λ a. a < host_bytes) Fits64 (λ a inside. omega (arith, inside, small)) (addresses_of share.plan guest (bounce_page geometry.mediator lane tag))
    (addresses-below host_bytes lanes geometry owner guest entry share lane tag laid given below tag_below is)

first-fits : (addresses : List ℕ) → All Fits64 addresses → slice_index addresses 0 < 2 ^ 64
first-fits [] each = omega arith
first-fits (addr ∷ addresses) each = All-head Fits64 addr addresses each

second-fits : (list : ℕ) (entries : List ℕ) → list < 2 ^ 64 → All Fits64 entries → prp2_by list entries < 2 ^ 64
second-fits list [] fits each = omega arith
second-fits list (entry ∷ []) fits each = All-head Fits64 entry [] each
second-fits list (entry ∷ next ∷ entries) fits each = fits

listed-fit : (entries : List ℕ) → All Fits64 entries → All Fits64 (listed entries)
listed-fit [] each = All-nil Fits64
listed-fit (entry ∷ []) each = All-nil Fits64
listed-fit (entry ∷ next ∷ entries) each = each

entries-fit : (addresses : List ℕ) → All Fits64 addresses → All Fits64 (entries_of addresses)
entries-fit addresses each = All-filter starts_page Fits64 (drop 1 addresses) (All-drop Fits64 1 addresses each)

-- PRP1 and PRP2 have 64 bits
prps-fit : (list : ℕ) (addresses : List ℕ) → list < 2 ^ 64 → All Fits64 addresses
    → ((built list addresses).prp1 < 2 ^ 64) × ((built list addresses).prp2 < 2 ^ 64)
unfolding built
prps-fit list addresses fits each = (first-fits addresses each, second-fits list (entries_of addresses) fits (entries-fit addresses each))

-- ---- the list

-- eight bytes that are those of a number are that number
word-back : (number : ℕ) (bytes : List ℕ) → number < 2 ^ 64 → bytes ≡ number_bytes 8 number → number_at bytes 0 8 ≡ number
unfolding number_at
word-back number bytes fits same = ap (λ bs. number_at bs 0 8) same ∙ little_number-reads_back 8 number [] fits

-- numbers whose bytes stand in a memory stand there
holds-words : (memory : ℕ → ℕ) (at : ℕ) (numbers : List ℕ) → All Fits64 numbers → Shows memory at (flat_map (number_bytes 8) numbers)
    → HoldsNumbers memory at numbers
unfolding HoldsNumbers
holds-words memory at [] each shown = tt
holds-words memory at (number ∷ numbers) each shown =
    let parts = shows-append memory at (number_bytes 8 number) (flat_map (number_bytes 8) numbers) shown in
    let first = word-back number (bytes_from memory at 8) (All-head Fits64 number numbers each) parts.0 in
    (first, holds-words memory (at + 8) numbers (All-tail Fits64 number numbers each) parts.1)

-- the list stands in its page
pub holds-list : (memory : ℕ → ℕ) (list : ℕ) (addresses : List ℕ) → All Fits64 addresses → Shows memory list (list_bytes (built list addresses))
    → HoldsList memory list (built list addresses)
unfolding built
holds-list memory list addresses each shown =
    let numbers = listed (entries_of addresses) in
    let front : take (length numbers) (padded numbers) ≡ numbers = take-append_seam numbers (replicate (32 - length numbers) 0) in
    subst (HoldsNumbers memory list) (sym front)
    (holds-words memory list numbers (listed-fit (entries_of addresses) (entries-fit addresses each)) (subst (λ ns. Shows memory list (flat_map (number_bytes 8) ns)) front shown))

-- ---- the places

-- what spells addresses has them as its places
spells-places : (addresses : List ℕ) (r : Reading) → SpellsAddresses addresses r → places_of (pieces_spelled r) ≡ map At addresses
spells-places addresses (Spells pieces) spells = spells
spells-places addresses (Faulty code) spells = absurd spells
spells-places addresses TooLong spells = absurd spells

-- where PRP1 and PRP2 name these addresses, and the list stands, a transfer of as many bytes has them as its places
named-places : (memory : ℕ → ℕ) (list n : ℕ) (addresses entry : List ℕ) → fit_prp addresses ≡ true → length addresses ≡ n → n ≤ most_bytes
    → list % page ≡ 0 → HoldsList memory list (built list addresses)
    → prp1_of entry ≡ (built list addresses).prp1 → prp2_of entry ≡ (built list addresses).prp2
    → places_of (pieces_named n entry memory) ≡ map At addresses
named-places memory list n addresses entry fit count few aligned holds first second =
    let spelled : SpellsAddresses addresses (reading_of memory (built list addresses) n) =
    subst (λ k. SpellsAddresses addresses (reading_of memory (built list addresses) k)) count
    (built-spells memory list addresses fit (omega (arith, count, few)) aligned holds) in
    ap (λ p. places_of (pieces_spelled (in_memory memory (read_prp (λ _. true) p (prp2_of entry) n)))) first
    ∙ ap (λ p. places_of (pieces_spelled (in_memory memory (read_prp (λ _. true) (built list addresses).prp1 p n)))) second
    ∙ spells-places addresses _ spelled

-- and where the list stands in two memories, a transfer has the same pieces in both
named-same : (memory other : ℕ → ℕ) (list n : ℕ) (addresses entry : List ℕ) → fit_prp addresses ≡ true → length addresses ≡ n → n ≤ most_bytes
    → list % page ≡ 0 → HoldsList memory list (built list addresses) → HoldsList other list (built list addresses)
    → prp1_of entry ≡ (built list addresses).prp1 → prp2_of entry ≡ (built list addresses).prp2
    → pieces_named n entry memory ≡ pieces_named n entry other
named-same memory other list n addresses entry fit count few aligned holds also first second =
    let same : reading_of memory (built list addresses) n ≡ reading_of other (built list addresses) n =
    subst (λ k. reading_of memory (built list addresses) k ≡ reading_of other (built list addresses) k) count
    (built-same memory other list addresses fit (omega (arith, count, few)) aligned holds also) in
    by_fields memory ∙ ap pieces_spelled same ∙ sym (by_fields other)
  where
    by_fields : (m : ℕ → ℕ) → pieces_named n entry m ≡ pieces_spelled (reading_of m (built list addresses) n)
    by_fields m =
        ap (λ p. pieces_spelled (in_memory m (read_prp (λ _. true) p (prp2_of entry) n))) first
        ∙ ap (λ p. pieces_spelled (in_memory m (read_prp (λ _. true) (built list addresses).prp1 p n))) second

-- a transfer of some bytes isn't empty
some-places : (n : ℕ) (entry : List ℕ) (memory : ℕ → ℕ) → 0 < n
    → places_of (cond (n == 0) [] (pieces_named n entry memory)) ≡ places_of (pieces_named n entry memory)
some-places n entry memory some =
    ap (λ b. places_of (cond b [] (pieces_named n entry memory))) (ne_eqb n 0 (λ none. absurd (omega (arith, none, some))))

-- a command without a buffer transfers nothing, and one with a buffer something
form-nothing : (form : Form) (own : Work) → form_has_buffer form ≡ false → own_len form own ≡ 0
form-nothing (Transfer dest) own e = cc
form-nothing Clear own e = refl
form-nothing Manage own e = cc
form-nothing Keep own e = refl

own-something : (form : Form) (own : Work) → form_has_buffer form ≡ true → HasCount form own → 0 < own_len form own
own-something (Transfer dest) own e has = let some = has.0 in omega (arith, some)
own-something Clear own e has = cc
own-something Manage own e has = let some = has.0 in omega (arith, some)
own-something Keep own e has = cc

module _ (host_bytes lanes : ℕ) (geometry : Geometry) (laid : IsLaidOut host_bytes lanes geometry) (owner : ℕ) (guest : Guest)
    (given : slice_get geometry.guests owner ≡ Some guest) (lane tag : ℕ) (below : lane < lanes) (tag_below : tag < tag_count)
    (entry : List ℕ) (share : Share) (is : IsPlanned guest entry share) (some : is_no_command share ≡ false) (host : ℕ → ℕ) where
  abbrev list : ℕ
  list = list_page geometry.mediator lane tag

  abbrev bounce : ℕ
  bounce = bounce_page geometry.mediator lane tag

  -- its own work
  abbrev own : Work
  own = own_work guest entry share is

  abbrev form : Form
  form = form_of is.work.opcode

  -- the physical entry of a share with that plan
  abbrev planned : Plan → Share
  planned p = record share { plan = p }

  abbrev physical : Plan → List ℕ
  physical p = share_entry (planned p) guest.namespace guest entry geometry.mediator lane tag

  short : own_len form own ≤ most_bytes
  short =
      let less = (own-of guest entry share is).short in
      let most = end-short (mapped (regions_of guest)) guest.limit (shape_of guest).blocks entry is.work is.verdict in
      omega (arith, less, most)

  counts : HasCount form own
  counts = own-counts guest entry share is some

  total : total_len own.pieces ≡ own_len form own
  total = (own-of guest entry share is).total

  -- the opcode of each is the work's
  pub physical-opcode : (p : Plan) → io_opcode (opcode_of (physical p)) ≡ Some is.work.opcode
  physical-opcode p =
      ap io_opcode (entry-opcode (planned p) guest entry geometry.mediator lane tag tag_below)
      ∙ (end-sound (mapped (regions_of guest)) guest.limit (shape_of guest).blocks entry is.work is.verdict).opcode

  -- what the device reads of it
  abbrev Reads : Plan → Type 0
  Reads p = places_of (cond (transfer_len is.work.opcode (physical p) == 0) [] (pieces_named (transfer_len is.work.opcode (physical p)) (physical p) host))
      ≡ map At (addresses_of p guest bounce)

  reads-nothing : (p : Plan) → transfer_len is.work.opcode (physical p) ≡ 0 → addresses_of p guest bounce ≡ [] → Reads p
  reads-nothing p none empty =
      ap (λ n. places_of (cond (n == 0) [] (pieces_named n (physical p) host))) none ∙ ap (map At) (sym empty)

  reads-some : (p : Plan) → transfer_len is.work.opcode (physical p) ≡ own_len form own → has_buffer is.work.opcode ≡ true
      → fit_prp (addresses_of p guest bounce) ≡ true → length (addresses_of p guest bounce) ≡ own_len form own
      → All Fits64 (addresses_of p guest bounce)
      → Shows host list (list_bytes (prps_of p guest list bounce)) → Reads p
  reads-some p same buffer fit count each shown =
      let any = own-something form own buffer counts in
      let area = laid.area in
      let small = laid.few in
      let pages = laid.pages in
      let within : list < 2 ^ 64 = omega (arith, area, small, below, tag_below) in
      let prps = prps-fit list (addresses_of p guest bounce) within each in
      let fields = entry-prps (planned p) guest entry geometry.mediator lane tag prps.0 prps.1 in
      ap (λ n. places_of (cond (n == 0) [] (pieces_named n (physical p) host))) same
      ∙ some-places (own_len form own) (physical p) host any
      ∙ named-places host list (own_len form own) (addresses_of p guest bounce) (physical p) fit count short (omega (arith, pages))
      (holds-list host list (addresses_of p guest bounce) each shown) fields.0 fields.1

  -- the entry of a work's form has its lengths
  form-lengths : (p : Plan) → own_dwords p guest.namespace entry ≡ work_dwords (form_of own.opcode) guest.namespace entry own
      → (transfer_len is.work.opcode (physical p) ≡ own_len form own) × (form_unit_count form (physical p) ≡ own_units form own)
  form-lengths p same =
      let formed : own_dwords p guest.namespace entry ≡ work_dwords form guest.namespace entry own =
      same ∙ ap (λ o. work_dwords (form_of o) guest.namespace entry own) (own-of guest entry share is).opcode in
      let as_built : physical p ≡ physical_entry (opcode_of entry) tag (prps_of p guest list bounce) (work_dwords form guest.namespace entry own) =
      ap (physical_entry (opcode_of entry) tag (prps_of p guest list bounce)) formed in
      let back = form-back form (opcode_of entry) tag (prps_of p guest list bounce) guest.namespace entry own counts in
      (ap (λ e. form_transfer_len form e) as_built ∙ back.0, ap (λ e. form_unit_count form e) as_built ∙ back.1)

  pub plan-lengths : (transfer_len is.work.opcode (physical share.plan) ≡ own_len form own)
      × (form_unit_count form (physical share.plan) ≡ own_units form own)
  plan-lengths =
      planned-kinds (λ p. (transfer_len is.work.opcode (physical p) ≡ own_len form own)
      × (form_unit_count form (physical p) ≡ own_units form own)) guest entry share is
      (form-lengths (NoData own) refl) (λ fits. form-lengths (Direct own) refl) (form-lengths (Bounced own) refl)

  -- its PRP1 and PRP2 are the share's
  pub plan-prps : (prp1_of (physical share.plan) ≡ (prps_of share.plan guest list bounce).prp1)
      × (prp2_of (physical share.plan) ≡ (prps_of share.plan guest list bounce).prp2)
  plan-prps =
      let area = laid.area in
      let small = laid.few in
      let within : list < 2 ^ 64 = omega (arith, area, small, below, tag_below) in
      let prps = prps-fit list (addresses_of share.plan guest bounce) within
      (addresses-fit host_bytes lanes geometry owner guest entry share lane tag laid given below tag_below is) in
      entry-prps share guest entry geometry.mediator lane tag prps.0 prps.1

  -- a direct transfer has an address for each of its bytes
  direct-counts : list_all is_run own.pieces ≡ true → length (host_addresses (regions_of guest) own.pieces) ≡ own_len form own
  direct-counts runs = length-mapped_runs (regions_of guest) own.pieces (own-of guest entry share is).mapped_each runs ∙ total

  runs-and-fit : places_fit (regions_of guest) own.pieces ≡ true
      → (list_all is_run own.pieces ≡ true) × (fit_prp (host_addresses (regions_of guest) own.pieces) ≡ true)
  runs-and-fit fits = and-true (list_all is_run own.pieces) (fit_prp (host_addresses (regions_of guest) own.pieces)) fits

  -- and so has any with a buffer
  pub plan-counts : has_buffer is.work.opcode ≡ true → length (addresses_of share.plan guest bounce) ≡ own_len form own
  plan-counts has =
      planned-by (λ p. length (addresses_of p guest bounce) ≡ own_len form own) guest entry share is
      (λ none. (let bad : true ≡ false = sym has ∙ none in cc))
      (λ buffer fits. direct-counts (runs-and-fit fits).0)
      (λ buffer. length-range_with_len bounce (total_len own.pieces) ∙ total)

  -- the device finds the share's addresses
  pub plan-reads : Shows host list (list_bytes (prps_of share.plan guest list bounce)) → Reads share.plan
  plan-reads =
      planned-by (λ p. All Fits64 (addresses_of p guest bounce) → Shows host list (list_bytes (prps_of p guest list bounce)) → Reads p) guest entry share is
      (λ none each shown. reads-nothing (NoData own) ((form-lengths (NoData own) refl).0 ∙ form-nothing form own none) refl)
      (λ buffer fits each shown.
      (let both = runs-and-fit fits in
      reads-some (Direct own) (form-lengths (Direct own) refl).0 buffer both.1 (direct-counts both.0) each shown))
      (λ buffer each shown.
      (let any = own-something form own buffer counts in
      let all = total in
      let pages = laid.pages in
      reads-some (Bounced own) (form-lengths (Bounced own) refl).0 buffer
      (fit-row bounce (total_len own.pieces) (omega (arith, all, any)) (omega (arith, pages)))
      (length-range_with_len bounce (total_len own.pieces) ∙ total) each shown))
      (addresses-fit host_bytes lanes geometry owner guest entry share lane tag laid given below tag_below is)

  -- ---- the same in two memories in which the list stands

  abbrev ReadsSame : (other : ℕ → ℕ) → Plan → Type 0
  ReadsSame other p =
      cond (transfer_len is.work.opcode (physical p) == 0) [] (pieces_named (transfer_len is.work.opcode (physical p)) (physical p) host)
      ≡ cond (transfer_len is.work.opcode (physical p) == 0) [] (pieces_named (transfer_len is.work.opcode (physical p)) (physical p) other)

  same-nothing : (other : ℕ → ℕ) (p : Plan) → transfer_len is.work.opcode (physical p) ≡ 0 → ReadsSame other p
  same-nothing other p none =
      ap (λ n. cond (n == 0) [] (pieces_named n (physical p) host)) none ∙ sym (ap (λ n. cond (n == 0) [] (pieces_named n (physical p) other)) none)

  same-some : (other : ℕ → ℕ) (p : Plan) → transfer_len is.work.opcode (physical p) ≡ own_len form own
      → fit_prp (addresses_of p guest bounce) ≡ true → length (addresses_of p guest bounce) ≡ own_len form own
      → All Fits64 (addresses_of p guest bounce)
      → Shows host list (list_bytes (prps_of p guest list bounce)) → Shows other list (list_bytes (prps_of p guest list bounce)) → ReadsSame other p
  same-some other p same fit count each shown also =
      let area = laid.area in
      let small = laid.few in
      let pages = laid.pages in
      let within : list < 2 ^ 64 = omega (arith, area, small, below, tag_below) in
      let prps = prps-fit list (addresses_of p guest bounce) within each in
      let fields = entry-prps (planned p) guest entry geometry.mediator lane tag prps.0 prps.1 in
      let n = own_len form own in
      ap (λ k. cond (k == 0) [] (pieces_named k (physical p) host)) same
      ∙ ap (λ ps. cond (n == 0) [] ps)
      (named-same host other list n (addresses_of p guest bounce) (physical p) fit count short (omega (arith, pages))
      (holds-list host list (addresses_of p guest bounce) each shown) (holds-list other list (addresses_of p guest bounce) each also) fields.0 fields.1)
      ∙ sym (ap (λ k. cond (k == 0) [] (pieces_named k (physical p) other)) same)

  plan-same : (other : ℕ → ℕ) → Shows host list (list_bytes (prps_of share.plan guest list bounce))
      → Shows other list (list_bytes (prps_of share.plan guest list bounce)) → ReadsSame other share.plan
  plan-same other =
      planned-by (λ p. All Fits64 (addresses_of p guest bounce) → Shows host list (list_bytes (prps_of p guest list bounce))
      → Shows other list (list_bytes (prps_of p guest list bounce)) → ReadsSame other p) guest entry share is
      (λ none each shown also. same-nothing other (NoData own) ((form-lengths (NoData own) refl).0 ∙ form-nothing form own none))
      (λ buffer fits each shown also.
      (let both = runs-and-fit fits in
      same-some other (Direct own) (form-lengths (Direct own) refl).0 both.1 (direct-counts both.0) each shown also))
      (λ buffer each shown also.
      (let any = own-something form own buffer counts in
      let all = total in
      let pages = laid.pages in
      same-some other (Bounced own) (form-lengths (Bounced own) refl).0
      (fit-row bounce (total_len own.pieces) (omega (arith, all, any)) (omega (arith, pages)))
      (length-range_with_len bounce (total_len own.pieces) ∙ total) each shown also))
      (addresses-fit host_bytes lanes geometry owner guest entry share lane tag laid given below tag_below is)

  pub held-same : (other : ℕ → ℕ) → Shows host list (list_bytes (prps_of share.plan guest list bounce))
      → Shows other list (list_bytes (prps_of share.plan guest list bounce)) → held_of (physical share.plan) host ≡ held_of (physical share.plan) other
  unfolding held_of
  held-same other shown also =
      ap (λ (ps : List Piece).
      let h : Held = record {
        entry = physical share.plan;
        pieces = ps;
        left = range_with_len 0 (unit_count (io_opcode (opcode_of (physical share.plan))) (physical share.plan));
        differed = false;
      } in
      h)
      (ap (λ o. host_pieces o (physical share.plan) host) (physical-opcode share.plan) ∙ plan-same other shown also
      ∙ sym (ap (λ o. host_pieces o (physical share.plan) other) (physical-opcode share.plan)))

  -- so it holds the command with them
  pub held-places : Shows host list (list_bytes (prps_of share.plan guest list bounce))
      → places_of (held_of (physical share.plan) host).pieces ≡ map At (addresses_of share.plan guest bounce)
  unfolding held_of
  held-places shown =
      ap (λ o. places_of (host_pieces o (physical share.plan) host)) (physical-opcode share.plan) ∙ plan-reads shown

  -- and with all its units
  pub held-all : (held_of (physical share.plan) host).left ≡ range_with_len 0 (own_units form own)
  unfolding held_of
  held-all = ap (range_with_len 0) (ap (λ o. unit_count o (physical share.plan)) (physical-opcode share.plan) ∙ plan-lengths.1)

  pub held-left : All (λ k. k < unit_count (io_opcode (opcode_of entry)) (physical share.plan)) (held_of (physical share.plan) host).left
  unfolding held_of
  held-left =
      let same : unit_count (io_opcode (opcode_of (physical share.plan))) (physical share.plan)
      ≡ unit_count (io_opcode (opcode_of entry)) (physical share.plan) =
      ap (λ o. unit_count o (physical share.plan)) (physical-opcode share.plan)
      ∙ sym (ap (λ o. unit_count o (physical share.plan))
      (end-sound (mapped (regions_of guest)) guest.limit (shape_of guest).blocks entry is.work is.verdict).opcode) in
      row-all (λ k. k < unit_count (io_opcode (opcode_of entry)) (physical share.plan)) 0
      (unit_count (io_opcode (opcode_of (physical share.plan))) (physical share.plan))
      (λ at low high. omega (arith, high, same))
