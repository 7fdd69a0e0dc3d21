-- The drive reads lists and sources, does units and writes destinations: what it has stays the mediator's.
use Rattle.std.proofs.Common.{◌≡◌, ℕ, ◌+◌, ◌*◌, ◌<◌, Bool, true, false, cond, not, ◌&&◌, ◌||◌, ◌==◌, List, [], ◌∷◌, length, set, slice_get, All}
use Rattle.std.proofs.Common.{Option, Some, None, is_none, arith, eqb-true, refl, sym, ap, ◌∙◌, subst}
use Rattle.std.proofs.lemmas.Bool.{and_parts}
use Rattle.std.proofs.lemmas.List.Elements.{All-drop, All-nil, All-take}
use Rattle.std.proofs.lemmas.Option.{option_and_then_some}
use Rattle.std.specs.List.{filter, list_all, list_any}
use Rattle.std.specs.Prelude.{option_and_then}
use Rattle.nv_fine.proofs.Commands.{any-own, id-below, known-own, known-sound, lane-below, none-own, own-off}
use Rattle.nv_fine.proofs.Entries.{drive-holds}
use Rattle.nv_fine.proofs.Mirrors.{Holds, IsLaneMirrored, IsOfTag, behind, list_of, undone}
use Rattle.nv_fine.proofs.Placed.{InList, IsFixed}
use Rattle.nv_fine.proofs.Quiets.{all-steady, world-lane_of}
use Rattle.nv_fine.proofs.Reaches.{stored-one, when-has, working-has}
use Rattle.nv_fine.proofs.Spared.{quiet-list, side-flies}
use Rattle.nv_fine.proofs.Steady.{effects_on-at}
use Rattle.nv_fine.proofs.Within.{IsGood}
use Rattle.nv_fine.specs.Drive.{Does, DriveLane, Knows, Outside, Sees, Working, Writes, chosen, driven, has_place, is_at, known, may_see, noted}
use Rattle.nv_fine.specs.Drive.{places_at, put, reading, unit_due, with_unit, with_verdict, byte_of}
use Rattle.nv_fine.specs.Fine.{Fine, with_memory}
use Rattle.nv_laws_sound.proofs.Lists.{IsThere, Put, Was, set-there, some-same}
use Rattle.nv_laws_sound.proofs.PlanSizes.{list-short}
use Rattle.nv_laws_sound.specs.LaidOut.{IsLaidOut}
use Rattle.nv_machine.specs.Entries.{NamesOwn}
use Rattle.nv_mem.specs.Places.{Place, places_of}
use Rattle.nv_model.proofs.Judged.{IsSoundWork}
use Rattle.nv_model.specs.Judge.{ClearBlock, Go, KeepAll, LeaveBlock, MoveBlock, Refuse, Verdict, Work, WorkUnit, form_of, is_read}
use Rattle.nv_model.specs.Limits.{block}
use Rattle.nv_model.specs.Memory.{stored}
use Rattle.nv_model.specs.Private.{Moved, numbers_of, unit_moved}
use Rattle.nv_world_model.specs.Area.{bounce_page, list_page}
use Rattle.nv_world_model.specs.Device.{DeviceLane}
use Rattle.nv_world_model.specs.Geometry.{Geometry, Guest}
use Rattle.nv_world_model.specs.World.{InDevice, World}

-- memory changes where nothing is fixed
pub memory-holds : (lanes : ℕ) (geometry : Geometry) (f : Fine) (w : World) (memory : ℕ → ℕ) → Holds lanes geometry f w
    → ((at : ℕ) → IsFixed geometry.mediator lanes at → memory at ≡ f.outside.memory at) → Holds lanes geometry (with_memory memory f) w
memory-holds lanes geometry f w memory holds same =
    record {
      live = holds.live;
      many = holds.many;
      sides = holds.sides;
      drives = holds.drives;
      mirrored = holds.mirrored;
      memory = λ at fixed.
          effects_on-at (undone f.call) memory f.outside.memory at
          (all-steady geometry lanes f.side (behind geometry f.side f.call) at fixed (undone f.call) holds.placed) (same at fixed)
          ∙ holds.memory at fixed;
      placed = holds.placed;
      read = holds.read;
    }

-- a verdict that lets a command go
verdict-has : (p : Outside) (P : Type 0) (v : Option Verdict) (rule : Work → Option Outside) → with_verdict v rule ≡ Some p
    → ((work : Work) → v ≡ Some (Go work) → rule work ≡ Some p → P) → P
verdict-has p P None rule ruled has = cc
verdict-has p P (Some (Refuse st)) rule ruled has = cc
verdict-has p P (Some (Go work)) rule ruled has = has work refl ruled

-- a command goes on
of-tag-with : (geometry : Geometry) (w : World) (lane id : ℕ) (k now : Working) (is : IsOfTag geometry w lane id k) → now.entry ≡ k.entry
    → ((i byte : ℕ) → i < length (list_of geometry is.given is.share lane id) → now.buffer (list_page geometry.mediator lane id + i) ≡ Some byte
    → w.host (list_page geometry.mediator lane id + i) ≡ byte)
    → ((work : Work) → now.work ≡ Some work
    → All (NamesOwn geometry is.given lane id) (places_of work.pieces) × IsSoundWork (λ _. true) geometry.disk_blocks k.entry work) → IsOfTag geometry w lane id now
of-tag-with geometry w lane id k now is same read work =
    record {
      command = is.command;
      share = is.share;
      given = is.given;
      flies = is.flies;
      guest = is.guest;
      planned = is.planned;
      some = is.some;
      entry = same ∙ is.entry;
      read = read;
      work = λ x has. (work x has).0;
      sound = λ x has. subst (λ (e : List ℕ). IsSoundWork (λ _. true) geometry.disk_blocks e x) (sym same) (work x has).1;
    }

module _ (host_bytes lanes : ℕ) (geometry : Geometry) (laid : IsLaidOut host_bytes lanes geometry) (f : Fine) (w : World) (good : IsGood lanes geometry f)
    (holds : Holds lanes geometry f w) where
  -- one command of a lane is another
  pub command-holds : (lane id : ℕ) (d : DriveLane) (now : Working) (disk : ℕ → ℕ → ℕ) (kept : ℕ → Bool) → slice_get f.outside.lanes lane ≡ Some d
      → IsOfTag geometry w lane id now
      → Holds lanes geometry (record f {
        outside = record f.outside { lanes = set f.outside.lanes lane (record d { working = set d.working id (Some now) }); disk = disk; kept = kept };
      }) w
  command-holds lane id d now disk kept there is =
      drive-holds lanes geometry f w lane d (record d { working = set d.working id (Some now) }) disk kept holds there refl (λ v under.
      (let mirror = holds.mirrored lane d v there under in
      record {
        head = mirror.head;
        posted = mirror.posted;
        phase = mirror.phase;
        seen = mirror.seen;
        working = λ n k at. by v mirror n k (set-there d.working id (Some now) n (Some k) at);
      }))
    where
      by : (v : DeviceLane) → IsLaneMirrored geometry w lane d v → (n : ℕ) (k : Working) → IsThere d.working id (Some now) n (Some k) → IsOfTag geometry w lane n k
      by v mirror n k (Was apart was) = mirror.working n k was
      by v mirror n k (Put same put) = subst (λ (i : ℕ). IsOfTag geometry w lane i k) (sym same) (subst (IsOfTag geometry w lane id) (some-same now k put) is)

  -- a command in the drive
  pub of-tag : (lane id : ℕ) (d : DriveLane) (k : Working) → slice_get f.outside.lanes lane ≡ Some d → slice_get d.working id ≡ Some (Some k) → IsOfTag geometry w lane id k
  of-tag lane id d k there at =
      let v = world-lane_of host_bytes lanes geometry laid f w good holds lane d there in (holds.mirrored lane d v.0 there v.1).working id k at

  -- ---- what it has read

  module _ (lane id : ℕ) (d : DriveLane) (k : Working) (there : slice_get f.outside.lanes lane ≡ Some d) (at : slice_get d.working id ≡ Some (Some k)) where
    abbrev is : IsOfTag geometry w lane id k
    is = of-tag lane id d k there at

    abbrev list : ℕ
    list = list_page geometry.mediator lane id

    pub short : (i : ℕ) → i < length (list_of geometry (of-tag lane id d k there at).given (of-tag lane id d k there at).share lane id)
        → list_page geometry.mediator lane id + i < bounce_page geometry.mediator lane id
    short i inside =
        let pages = laid.pages in
        let few = list-short is.given is.command.entry is.share (list_page geometry.mediator lane id) (bounce_page geometry.mediator lane id) (omega (arith, pages)) is.planned in
        omega (arith, inside, few)

    -- a byte of its list is as the world has it
    pub list-now : (i : ℕ) → i < length (list_of geometry (of-tag lane id d k there at).given (of-tag lane id d k there at).share lane id)
        → f.outside.memory (list_page geometry.mediator lane id + i) ≡ w.host (list_page geometry.mediator lane id + i)
    list-now i inside =
        let flies = side-flies host_bytes lanes geometry laid f w good holds lane id is.command is.share InDevice is.flies in
        quiet-list host_bytes lanes geometry laid f w good holds lane id is.command is.share flies.0 flies.1 (list_page geometry.mediator lane id + i) (omega arith)
        (short i inside)

    pub noting : (to : ℕ) → IsOfTag geometry w lane id (record k { buffer = noted to f.outside.memory k.buffer })
    noting to =
        of-tag-with geometry w lane id k (record k { buffer = noted to f.outside.memory k.buffer }) is refl
        (λ i byte inside has. by i byte inside (list_page geometry.mediator lane id + i == to) refl has) (λ x has. (is.work x has, is.sound x has))
      where
        by : (i byte : ℕ) → i < length (list_of geometry (of-tag lane id d k there at).given (of-tag lane id d k there at).share lane id) → (b : Bool)
            → (list_page geometry.mediator lane id + i == to) ≡ b
            → cond b (Some (f.outside.memory to)) (k.buffer (list_page geometry.mediator lane id + i)) ≡ Some byte → w.host (list_page geometry.mediator lane id + i) ≡ byte
        by i byte inside false other has = is.read i byte inside has
        by i byte inside true same has =
            sym (list-now i inside) ∙ ap f.outside.memory (eqb-true (list_page geometry.mediator lane id + i) to same) ∙ some-same (f.outside.memory to) byte has

    pub knowing : (work : Work) (left : List ℕ) → known k.buffer (reading geometry k.entry) ≡ Some (Go work)
        → IsOfTag geometry w lane id (record k { work = Some work; left = left })
    knowing work left told =
        of-tag-with geometry w lane id k (record k { work = Some work; left = left }) is refl is.read
        (λ other same. subst (λ (x : Work). All (NamesOwn geometry (of-tag lane id d k there at).given lane id) (places_of x.pieces)
        × IsSoundWork (λ _. true) geometry.disk_blocks k.entry x) (some-same work other same) (
          known-own host_bytes lanes geometry laid w holds.live holds.many lane id k is work told,
          known-sound host_bytes lanes geometry laid w holds.live holds.many lane id k is work told,
        ))

    -- bytes of its destination are in no list page
    got-off : (work : Work) → k.work ≡ Some work → (got : List Place) → All (NamesOwn geometry (of-tag lane id d k there at).given lane id) got → (i : ℕ)
        → i < length (list_of geometry (of-tag lane id d k there at).given (of-tag lane id d k there at).share lane id)
        → list_any (is_at (list_page geometry.mediator lane id + i)) got ≡ false
    got-off work has got each i inside =
        none-own (NamesOwn geometry (of-tag lane id d k there at).given lane id) (list_page geometry.mediator lane id + i) got each (λ own.
        (let below = id-below host_bytes lanes geometry laid w holds.live holds.many lane id k is in
        own-off host_bytes lanes geometry laid is.command.guest is.given is.guest lane id (list_page geometry.mediator lane id + i) below own
        (InList lane id (lane-below host_bytes lanes geometry laid w holds.live holds.many lane id k is) below (omega arith) (short i inside))))

    pub doing : (work : Work) → k.work ≡ Some work → (number : ℕ) (got : List Place) (m : Moved) → All (NamesOwn geometry (of-tag lane id d k there at).given lane id) got
        → IsOfTag geometry w lane id (with_unit number got m k)
    doing work has number got m each =
        of-tag-with geometry w lane id k (with_unit number got m k) is refl
        (λ i byte inside got_it.
        is.read i byte inside
        (sym (ap (λ (b : Bool). cond b (Some (m.memory (list_page geometry.mediator lane id + i))) (k.buffer (list_page geometry.mediator lane id + i)))
        (got-off work has got each i inside)) ∙ got_it)) (λ x known_it. (is.work x known_it, is.sound x known_it))

  -- ---- the accesses

  abbrev Next : Outside → Type 0
  Next p = (z : World) × Holds lanes geometry (record f { outside = p }) z

  module _ (zeroes : Bool) (p : Outside) where
    pub sees : (lane id to : ℕ) → driven geometry zeroes f.side.tails (Sees lane id to) f.outside ≡ Some p → Next p
    unfolding driven
    sees lane id to is =
        working-has geometry f.side.tails f.outside lane id _ p (Next p) is (λ k d there found ruled.
        when-has (may_see (reading geometry k.entry) f.outside.memory k.work to) _ p Next ruled (λ may.
        (w, command-holds lane id d (record k { buffer = noted to f.outside.memory k.buffer }) f.outside.disk f.outside.kept there (noting lane id d k there found to))))

    pub knows : (lane id : ℕ) → driven geometry zeroes f.side.tails (Knows lane id) f.outside ≡ Some p → Next p
    unfolding driven
    knows lane id is =
        working-has geometry f.side.tails f.outside lane id _ p (Next p) is (λ k d there found ruled.
        verdict-has p (Next p) (known k.buffer (reading geometry k.entry)) _ ruled (λ work told done.
        when-has (is_none k.work) _ p Next done (λ may. (
          w,
          command-holds lane id d (record k { work = Some work; left = numbers_of work }) f.outside.disk f.outside.kept there
              (knowing lane id d k there found work (numbers_of work) told),
        ))))

    places-own : (given : Guest) (lane id : ℕ) (work : Work) (unit : WorkUnit) (reads : Bool)
        → All (NamesOwn geometry given lane id) (places_of work.pieces) → All (NamesOwn geometry given lane id) (cond reads (places_at unit work) [])
    places-own given lane id work unit false each = All-nil (NamesOwn geometry given lane id)
    places-own given lane id work (MoveBlock index lba) true each =
        All-take (NamesOwn geometry given lane id) block _ (All-drop (NamesOwn geometry given lane id) (block * index) (places_of work.pieces) each)
    places-own given lane id work (ClearBlock lba mark) true each = All-nil (NamesOwn geometry given lane id)
    places-own given lane id work (LeaveBlock lba) true each = All-nil (NamesOwn geometry given lane id)
    places-own given lane id work (KeepAll blocks) true each = All-nil (NamesOwn geometry given lane id)

    pub does : (lane id number : ℕ) (leaves : Bool) → driven geometry zeroes f.side.tails (Does lane id number leaves) f.outside ≡ Some p → Next p
    unfolding driven
    does lane id number leaves is =
        working-has geometry f.side.tails f.outside lane id _ p (Next p) is (λ k d there found ruled.
        option_and_then_some _ k.work p ruled (λ work has done.
        option_and_then_some _ (option_and_then (chosen zeroes leaves (form_of work.opcode)) (unit_due work k.left number)) p done (λ unit due made.
        (let m : Moved = unit_moved unit work (byte_of k.buffer) f.outside.disk f.outside.kept in
        let got : List Place = cond (is_read work.opcode) (places_at unit work) [] in
        when-has (is_read work.opcode || list_all (has_place k.buffer) (places_at unit work)) _ p Next made (λ may. (
          w,
          command-holds lane id d (with_unit number got m k) m.disk m.kept there
              (doing lane id d k there found work has number got m
              (places-own (of-tag lane id d k there found).given lane id work unit (is_read work.opcode) ((of-tag lane id d k there found).work work has))),
        ))))))

    pub writes : (lane id to : ℕ) → driven geometry zeroes f.side.tails (Writes lane id to) f.outside ≡ Some p → Next p
    unfolding driven
    writes lane id to is =
        working-has geometry f.side.tails f.outside lane id _ p (Next p) is (λ k d there found ruled.
        option_and_then_some _ k.work p ruled (λ work has done.
        option_and_then_some _ (k.buffer to) p done (λ byte got made.
        when-has (is_read work.opcode && list_any (is_at to) (places_of work.pieces)) _ p Next made (λ may.
        (let now : Working = record k { owed = filter (λ q. not (is_at to q)) k.owed } in
        let tag = of-tag lane id d k there found in (
          w,
          memory-holds lanes geometry
              (record f { outside = record f.outside { lanes = set f.outside.lanes lane (record d { working = set d.working id (Some now) }) } }) w
              (stored f.outside.memory to (byte ∷ []))
              (command-holds lane id d now f.outside.disk f.outside.kept there (of-tag-with geometry w lane id k now tag refl tag.read (λ x known_it. (tag.work x known_it, tag.sound x known_it))))
              (λ at fixed. stored-one f.outside.memory to byte at (λ same.
              (let below = id-below host_bytes lanes geometry laid w holds.live holds.many lane id k tag in
              own-off host_bytes lanes geometry laid tag.command.guest tag.given tag.guest lane id to below
              (any-own (NamesOwn geometry tag.given lane id) to (places_of work.pieces) (tag.work work has) (and_parts (is_read work.opcode) (list_any (is_at to) (places_of work.pieces)) may).1)
              (subst (IsFixed geometry.mediator lanes) (sym same) fixed)))),
        ))))))
