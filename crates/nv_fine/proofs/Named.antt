-- What a command in the drive names is its guest's: the list that it may read, its source, and the blocks of its units.
use Rattle.std.proofs.Common.{◌≡◌, ℕ, zero, suc, ◌+◌, ◌-◌, ◌<◌, ◌≤◌, ◌⊎◌, inl, inr, Bool, true, false, cond, ◌&&◌, ◌||◌, nat_le, nat_lt, List, [], ◌∷◌, ◌++◌}
use Rattle.std.proofs.Common.{length, map, slice_get, All, Option, Some, None, arith, refl, sym, ap, ◌∙◌, subst}
use Rattle.std.proofs.lemmas.Bool.{ne_eqb}
use Rattle.std.proofs.lemmas.Bool.Decides.{nat_tests}
use Rattle.std.proofs.lemmas.List.Elements.{All-append, All-cons, All-head, All-nil, All-tail, All-weaker}
use Rattle.std.specs.List.{enumerate_from, list_any, range_with_len}
use Rattle.std.specs.Option.{option_map}
use Rattle.std.specs.Prelude.{unwrap_or}
use Rattle.nv_entry.specs.Opcode.{io_opcode}
use Rattle.nv_entry.specs.Submission.{opcode_of, prp1_of, prp2_of, slba_of}
use Rattle.nv_entry.specs.declared.opcode.IoOpcode.{IoOpcode}
use Rattle.nv_fine.proofs.Asks.{InPage, asked-built}
use Rattle.nv_fine.proofs.Commands.{any-own, entry-own, id-below, lane-below, list-there}
use Rattle.nv_fine.proofs.Known.{verdict-places}
use Rattle.nv_fine.proofs.Mirrors.{Holds, IsOfTag, list_of}
use Rattle.nv_fine.proofs.Questions.{Asks, asked-source, asked-verdict}
use Rattle.nv_fine.proofs.Spared.{side-flies}
use Rattle.nv_fine.proofs.Within.{IsGood}
use Rattle.nv_fine.proofs.Works.{list-now, of-tag}
use Rattle.nv_fine.specs.Drive.{DriveLane, Working, is_at, may_see, reading, source_of}
use Rattle.nv_fine.specs.Fine.{Fine}
use Rattle.nv_laws_sound.proofs.HeldEntries.{physical-opcode, plan-counts, plan-lengths, plan-prps}
use Rattle.nv_laws_sound.proofs.Lists.{some-same}
use Rattle.nv_laws_sound.proofs.PlanSizes.{addresses-nameable}
use Rattle.nv_laws_sound.specs.Area.{Shows}
use Rattle.nv_laws_sound.specs.LaidOut.{IsLaidOut}
use Rattle.nv_machine.specs.Contained.{IsOwn, OfMemory, OfPages}
use Rattle.nv_machine.specs.Doing.{tag_at}
use Rattle.nv_machine.specs.Entries.{IsOwnByte, NamesOwn}
use Rattle.nv_mem.specs.Places.{Place, places_of}
use Rattle.nv_mem.specs.declared.piece.Piece.{Piece}
use Rattle.nv_model.proofs.Agreeing.{bytes_from-agree}
use Rattle.nv_model.proofs.QueuesKept.{by_test}
use Rattle.nv_model.specs.Dialogue.{asked, in_memory}
use Rattle.nv_model.specs.Judge.{Clear, ClearBlock, Form, Go, Keep, Manage, MoveBlock, Refuse, Transfer, Verdict, Work, WorkUnit, clear_units, count_of}
use Rattle.nv_model.specs.Judge.{form_has_blocks, form_has_buffer, form_of, form_transfer_len, form_units, has_blocks, has_buffer, is_fua, is_read, lbas_of, move_units, read_source, transfer_len}
use Rattle.nv_model.specs.Limits.{most_bytes, most_descriptors}
use Rattle.nv_model.specs.Prp.{read_prp}
use Rattle.nv_model.specs.Reading.{Reading, Spells}
use Rattle.nv_prp.specs.Built.{built}
use Rattle.nv_prp.specs.Fits.{fit_prp}
use Rattle.nv_world_model.specs.Area.{addresses_of, bounce_page, list_page, tag_count}
use Rattle.nv_world_model.specs.Device.{held_of, host_pieces, pieces_spelled}
use Rattle.nv_world_model.specs.Geometry.{Geometry}
use Rattle.nv_world_model.specs.ShareArea.{share_entry, unit_lba}
use Rattle.nv_world_model.specs.View.{in_extents, lies_in}
use Rattle.nv_world_model.specs.World.{Flying, InDevice, Standing, World}

-- ---- spans

-- an address in one of some spans has what each byte of them has
lies-own : (Q : ℕ → Type 0) (spans : List (ℕ × ℕ)) (at : ℕ) → All (λ (s : ℕ × ℕ). (i : ℕ) → i < s.1 → Q (s.0 + i)) spans → lies_in spans at ≡ true → Q at
lies-own Q [] at each is = cc
lies-own Q (s ∷ spans) at each is =
    by (nat_le s.0 at && nat_lt at (s.0 + s.1)) refl is
    (λ rest. lies-own Q spans at (All-tail (λ (t : ℕ × ℕ). (i : ℕ) → i < t.1 → Q (t.0 + i)) s spans each) rest)
  where
    by : (b : Bool) → (nat_le s.0 at && nat_lt at (s.0 + s.1)) ≡ b → (b || lies_in spans at) ≡ true → (lies_in spans at ≡ true → Q at) → Q at
    by false out found rest = rest found
    by true inside found rest =
        let low : s.0 ≤ at = grind (arith, nat_tests) in
        let high : at < s.0 + s.1 = grind (arith, nat_tests) in
        let same : s.0 + (at - s.0) ≡ at = omega (arith, low) in
        subst Q same (All-head (λ (t : ℕ × ℕ). (i : ℕ) → i < t.1 → Q (t.0 + i)) s spans each (at - s.0) (omega (arith, low, high)))

-- a command with a buffer transfers something
some-transfer : (form : Form) (entry : List ℕ) → form_has_buffer form ≡ true → 0 < form_transfer_len form entry
some-transfer (Transfer dest) entry has = omega arith
some-transfer Clear entry has = cc
some-transfer Manage entry has = omega arith
some-transfer Keep entry has = cc

-- ---- units

-- blocks in a row
row-blocks : (P : ℕ → Type 0) (from len : ℕ) → ((i : ℕ) → i < len → P (from + i)) → All P (range_with_len from len)
row-blocks P from zero each = All-nil P
row-blocks P from (suc len) each =
    let here : from + 0 ≡ from = omega arith in
    All-cons P from (range_with_len (from + 1) len) (subst P here (each 0 (omega arith)))
    (row-blocks P (from + 1) len (λ i below. let next : from + suc i ≡ from + 1 + i = omega arith in subst P next (each (suc i) (omega (arith, below)))))

moves-each : (P : ℕ → Type 0) (k : ℕ) (lbas : List ℕ) → All P lbas → All (λ (u : WorkUnit). P (unit_lba u)) (map (λ p. MoveBlock p.0 p.1) (enumerate_from k lbas))
moves-each P k [] each = All-nil (λ (u : WorkUnit). P (unit_lba u))
moves-each P k (lba ∷ lbas) each =
    All-cons (λ (u : WorkUnit). P (unit_lba u)) (MoveBlock k lba) _ (All-head P lba lbas each) (moves-each P (k + 1) lbas (All-tail P lba lbas each))

clears-each : (P : ℕ → Type 0) (mark : Bool) (lbas : List ℕ) → All P lbas → All (λ (u : WorkUnit). P (unit_lba u)) (map (λ lba. ClearBlock lba mark) lbas)
clears-each P mark [] each = All-nil (λ (u : WorkUnit). P (unit_lba u))
clears-each P mark (lba ∷ lbas) each =
    All-cons (λ (u : WorkUnit). P (unit_lba u)) (ClearBlock lba mark) _ (All-head P lba lbas each) (clears-each P mark lbas (All-tail P lba lbas each))

-- the units of a command with blocks are those blocks
units-each : (P : ℕ → Type 0) (form : Form) (blocks : ℕ) (entry : List ℕ) (ranges : List (List ℕ)) → form_has_blocks form ≡ true
    → All P (lbas_of entry) → All (λ (u : WorkUnit). P (unit_lba u)) (form_units form blocks entry ranges)
unfolding move_units clear_units
units-each P (Transfer dest) blocks entry ranges has each = moves-each P 0 (lbas_of entry) each
units-each P Clear blocks entry ranges has each = clears-each P (is_fua entry) (lbas_of entry) each
units-each P Manage blocks entry ranges has each = cc
units-each P Keep blocks entry ranges has each = cc

all-there : (P : WorkUnit → Type 0) (us : List WorkUnit) (i : ℕ) (u : WorkUnit) → All P us → slice_get us i ≡ Some u → P u
all-there P [] i u each at = cc
all-there P (x ∷ us) zero u each at = subst P (some-same x u at) (All-head P x us each)
all-there P (x ∷ us) (suc i) u each at = all-there P us i u (All-tail P x us each) at

-- ---- a command

module _ (host_bytes lanes : ℕ) (geometry : Geometry) (laid : IsLaidOut host_bytes lanes geometry) (f : Fine) (w : World) (good : IsGood lanes geometry f)
    (holds : Holds lanes geometry f w) (lane id : ℕ) (d : DriveLane) (k : Working) (there : slice_get f.outside.lanes lane ≡ Some d)
    (at_id : slice_get d.working id ≡ Some (Some k)) where
  abbrev pub is : IsOfTag geometry w lane id k
  is = of-tag host_bytes lanes geometry laid f w good holds lane id d k there at_id

  abbrev list : ℕ
  list = list_page geometry.mediator lane id

  abbrev bounce : ℕ
  bounce = bounce_page geometry.mediator lane id

  abbrev memory : ℕ → ℕ
  memory = f.outside.memory

  abbrev physical : List ℕ
  physical = share_entry is.share is.given.namespace is.given is.command.entry geometry.mediator lane id

  abbrev addresses : List ℕ
  addresses = addresses_of is.share.plan is.given bounce

  abbrev Q : ℕ → Type 0
  Q at = IsOwn geometry f.side is.command.guest at

  abbrev N : Place → Type 0
  N = NamesOwn geometry is.given lane id

  flies : (standing : Standing) × (tag_at f.side lane id ≡ Some (Flying is.command is.share standing))
  flies = side-flies host_bytes lanes geometry laid f w good holds lane id is.command is.share InDevice is.flies

  -- its pages are the guest's
  page-own : (at : ℕ) → list_page geometry.mediator lane id ≤ at → at < list_page geometry.mediator lane (id + 1) → Q at
  page-own at low high = OfPages lane id (Flying is.command is.share flies.0) flies.1 refl low high

  pub place-own : (at : ℕ) → IsOwnByte geometry is.given lane id at → Q at
  place-own at (inl image) = OfMemory is.given is.guest image
  place-own at (inr pages) = let low = pages.0 in page-own at (omega (arith, low)) pages.1

  -- the list stands in memory as it is now
  list-memory : Shows f.outside.memory (list_page geometry.mediator lane id) (list_of geometry is.given is.share lane id)
  list-memory =
      bytes_from-agree f.outside.memory w.host (list_page geometry.mediator lane id) (length (list_of geometry is.given is.share lane id))
      (λ i inside. list-now host_bytes lanes geometry laid f w good holds lane id d k there at_id i inside)
      ∙ list-there host_bytes lanes geometry laid w holds.live holds.many lane id k is

  places-now : All N (places_of (held_of physical f.outside.memory).pieces)
  places-now = (entry-own host_bytes lanes geometry laid w holds.live holds.many lane id k is).bytes f.outside.memory list-memory

  in_lanes : lane < lanes
  in_lanes = lane-below host_bytes lanes geometry laid w holds.live holds.many lane id k is

  in_tags : id < tag_count
  in_tags = id-below host_bytes lanes geometry laid w holds.live holds.many lane id k is

  opcode-is : (opcode : IoOpcode) → io_opcode (opcode_of physical) ≡ Some opcode → is.planned.work.opcode ≡ opcode
  opcode-is opcode names =
      some-same is.planned.work.opcode opcode
      (sym (physical-opcode host_bytes lanes geometry laid is.command.guest is.given is.guest lane id in_lanes in_tags is.command.entry is.share is.planned is.some (λ _. 0)
      is.share.plan) ∙ names)

  module _ (opcode : IoOpcode) (names : io_opcode (opcode_of physical) ≡ Some opcode) (has : has_buffer opcode ≡ true) where
    count : transfer_len opcode physical ≡ length addresses
    count =
        let same = opcode-is opcode names in
        ap (λ (o : IoOpcode). transfer_len o physical) (sym same)
        ∙ (plan-lengths host_bytes lanes geometry laid is.command.guest is.given is.guest lane id in_lanes in_tags is.command.entry is.share is.planned is.some (λ _. 0)).0
        ∙ sym (plan-counts host_bytes lanes geometry laid is.command.guest is.given is.guest lane id in_lanes in_tags is.command.entry is.share is.planned is.some (λ _. 0)
        (ap has_buffer same ∙ has))

    some : addresses ≡ [] → ⊥
    some none =
        let more = some-transfer (form_of opcode) physical has in
        let nothing = count ∙ ap (λ (xs : List ℕ). length xs) none in
        absurd (omega (arith, more, nothing))

    fits : fit_prp addresses ≡ true
    fits =
        let pages = laid.pages in
        by (addresses-nameable is.given is.command.entry is.share bounce (omega (arith, pages)) is.planned).fit
      where
        by : (fit_prp addresses ≡ true) ⊎ (addresses ≡ []) → fit_prp addresses ≡ true
        by (inl fit) = fit
        by (inr none) = absurd (some none)

    few : length addresses ≤ most_bytes
    few = let pages = laid.pages in (addresses-nameable is.given is.command.entry is.share bounce (omega (arith, pages)) is.planned).few

    fields : (prp1_of physical ≡ (built list addresses).prp1) × (prp2_of physical ≡ (built list addresses).prp2)
    fields = plan-prps host_bytes lanes geometry laid is.command.guest is.given is.guest lane id in_lanes in_tags is.command.entry is.share is.planned is.some (λ _. 0)

    in-page : All (InPage list) (asked memory (read_prp (λ _. true) (prp1_of physical) (prp2_of physical) (transfer_len opcode physical)))
    in-page =
        let pages = laid.pages in
        subst (λ (n : ℕ). All (InPage list) (asked memory (read_prp (λ _. true) (prp1_of physical) (prp2_of physical) n))) (sym count)
        (subst (λ (p : ℕ). All (InPage list) (asked memory (read_prp (λ _. true) (prp1_of physical) p (length addresses)))) (sym fields.1)
        (subst (λ (p : ℕ). All (InPage list) (asked memory (read_prp (λ _. true) p (built list addresses).prp2 (length addresses)))) (sym fields.0)
        (asked-built memory list addresses some fits few (omega (arith, pages)))))

    lists : All (Asks Q memory) (asked memory (read_prp (λ _. true) (prp1_of physical) (prp2_of physical) (transfer_len opcode physical)))
    lists =
        All-weaker (InPage list) (Asks Q memory)
        (λ (s : ℕ × ℕ). λ inside i below. (let low = inside.0 in let high = inside.1 in page-own (s.0 + i) (omega (arith, low)) (omega (arith, high, below))))
        (asked memory (read_prp (λ _. true) (prp1_of physical) (prp2_of physical) (transfer_len opcode physical))) in-page

    sources : (pieces : List Piece) → in_memory memory (read_prp (λ _. true) (prp1_of physical) (prp2_of physical) (transfer_len opcode physical)) ≡ Spells pieces
        → All (Asks Q memory) (asked memory (read_source pieces []))
    unfolding held_of
    sources pieces spells =
        let more = some-transfer (form_of opcode) physical has in
        asked-source Q memory N (λ at own. place-own at own) pieces []
        (subst (λ (r : Reading). All N (places_of (pieces_spelled r))) spells
        (subst (λ (b : Bool). All N (places_of (cond b [] (pieces_spelled (in_memory memory
        (read_prp (λ _. true) (prp1_of physical) (prp2_of physical) (transfer_len opcode physical)))))))
        (ne_eqb (transfer_len opcode physical) 0 (λ none. absurd (omega (arith, none, more))))
        (subst (λ (o : Option IoOpcode). All N (places_of (host_pieces o physical memory))) names places-now)))

  -- what may be asked for
  asks : All (Asks Q memory) (asked memory (reading geometry physical))
  asks =
      asked-verdict Q memory most_descriptors geometry.disk_blocks physical (entry-own host_bytes lanes geometry laid w holds.live holds.many lane id k is).psdt
      lists (λ opcode names has pieces spells. sources opcode names has pieces spells)

  -- a source that is found now, and one that was
  source-now : (v : Verdict) → in_memory memory (reading geometry physical) ≡ v → All N (source_of v)
  source-now (Refuse st) told = All-nil N
  source-now (Go work) told =
      by_test (All N) (is_read work.opcode) [] (places_of work.pieces) (λ reads. All-nil N)
      (λ other. verdict-places N memory most_descriptors geometry.disk_blocks physical work
      (entry-own host_bytes lanes geometry laid w holds.live holds.many lane id k is).psdt told places-now)

  source-then : (o : Option Work) → k.work ≡ o → All N (unwrap_or (option_map (λ x. source_of (Go x)) o) [])
  source-then None told = All-nil N
  source-then (Some work) told = by_test (All N) (is_read work.opcode) [] (places_of work.pieces) (λ reads. All-nil N) (λ other. is.work work told)

  sees-own : (at : ℕ) → may_see (reading geometry physical) memory k.work at ≡ true → Q at
  sees-own at may = by (lies_in (asked memory (reading geometry physical)) at) refl may
    where
      by : (b : Bool) → lies_in (asked memory (reading geometry physical)) at ≡ b
          → (b || list_any (is_at at) (source_of (in_memory memory (reading geometry physical)) ++ unwrap_or (option_map (λ x. source_of (Go x)) k.work) [])) ≡ true → Q at
      by true lies any = lies-own Q (asked memory (reading geometry physical)) at asks lies
      by false lies any =
          place-own at
          (any-own N at (source_of (in_memory memory (reading geometry physical)) ++ unwrap_or (option_map (λ x. source_of (Go x)) k.work) [])
          (All-append N (source_of (in_memory memory (reading geometry physical))) (unwrap_or (option_map (λ x. source_of (Go x)) k.work) [])
          (source-now (in_memory memory (reading geometry physical)) refl) (source-then k.work refl)) any)

  -- so what is read of it is its guest's
  pub reads-own : (at : ℕ) → may_see (reading geometry k.entry) memory k.work at ≡ true → Q at
  reads-own at may = sees-own at (ap (λ (e : List ℕ). may_see (reading geometry e) memory k.work at) (sym is.entry) ∙ may)

  -- and so are its blocks
  pub blocks-own : (work : Work) (number : ℕ) (unit : WorkUnit) → k.work ≡ Some work → has_blocks work.opcode ≡ true → slice_get work.units number ≡ Some unit
      → in_extents is.given.namespace (unit_lba unit) ≡ true
  blocks-own work number unit told has at =
      let sound = is.sound work told in
      let own = entry-own host_bytes lanes geometry laid w holds.live holds.many lane id k is in
      let names : io_opcode (opcode_of physical) ≡ Some work.opcode = ap (λ (e : List ℕ). io_opcode (opcode_of e)) (sym is.entry) ∙ sound.opcode in
      let Its : ℕ → Type 0 = λ lba. in_extents is.given.namespace lba ≡ true in
      all-there (λ (u : WorkUnit). Its (unit_lba u)) work.units number unit
      (subst (All (λ (u : WorkUnit). Its (unit_lba u))) (sym sound.units)
      (subst (λ (e : List ℕ). All (λ (u : WorkUnit). Its (unit_lba u)) (form_units (form_of work.opcode) geometry.disk_blocks e work.ranges)) (sym is.entry)
      (units-each Its (form_of work.opcode) geometry.disk_blocks physical work.ranges has
      (row-blocks Its (slba_of physical) (count_of physical) (own.blocks work.opcode names has))))) at
