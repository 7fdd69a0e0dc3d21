-- A command in the drive names bytes of its guest alone, whatever of its list the drive has read, and at which times.
use Rattle.std.proofs.Common.{◌≡◌, ℕ, ◌+◌, ◌<◌, ◌≤◌, inl, inr, Bool, true, false, ◌||◌, ◌==◌, List, [], ◌∷◌, length, slice_get, All}
use Rattle.std.proofs.Common.{Option, Some, None, is_some, arith, eqb-true, refl, sym, ap, ◌∙◌, subst}
use Rattle.std.proofs.lemmas.List.Elements.{All-head, All-tail}
use Rattle.std.specs.List.{list_any}
use Rattle.std.specs.Prelude.{unwrap_or}
use Rattle.nv_fine.proofs.Known.{known-in, verdict-places}
use Rattle.nv_fine.proofs.Mirrors.{IsOfTag, list_of}
use Rattle.nv_fine.proofs.Placed.{IsFixed, fixed-high, fixed-low, fixed-no_bounce}
use Rattle.nv_fine.specs.Drive.{Working, is_at, known, reading}
use Rattle.nv_laws_sound.proofs.Lists.{slice_get-below, some-same}
use Rattle.nv_laws_sound.proofs.Slots.{device-there, held-under}
use Rattle.nv_laws_sound.specs.Area.{Shows, ranges_of}
use Rattle.nv_laws_sound.specs.Consistent.{IsTag}
use Rattle.nv_laws_sound.specs.LaidOut.{IsLaidOut}
use Rattle.nv_machine.proofs.Cases.{tag-lane}
use Rattle.nv_machine.proofs.OwnEntries.{own-entry}
use Rattle.nv_machine.specs.Entries.{IsOwnByte, IsOwnEntry, NamesOwn}
use Rattle.nv_machine.specs.InWorld.{IsLive}
use Rattle.nv_mem.specs.GuestMap.{guest_of}
use Rattle.nv_mem.specs.Places.{At, Bucket, Place, places_of}
use Rattle.nv_model.proofs.Agreeing.{bytes_from-agree}
use Rattle.nv_model.proofs.Judged.{IsSoundWork, verdict-sound}
use Rattle.nv_model.specs.Dialogue.{in_memory}
use Rattle.nv_model.specs.Judge.{Go, Work}
use Rattle.nv_model.specs.Limits.{most_descriptors}
use Rattle.nv_world_model.specs.Area.{lane_start, list_page, tag_count}
use Rattle.nv_world_model.specs.Device.{DeviceLane, Held}
use Rattle.nv_world_model.specs.Geometry.{Geometry, Guest, regions_of}
use Rattle.nv_world_model.specs.ShareArea.{share_entry}
use Rattle.nv_world_model.specs.View.{in_image}
use Rattle.nv_world_model.specs.World.{Flying, InDevice, Lane, World}

-- ---- places

-- one of some places is that address
pub any-own : (P : Place → Type 0) (at : ℕ) (places : List Place) → All P places → list_any (is_at at) places ≡ true → P (At at)
any-own P at [] each is = cc
any-own P at (Bucket ∷ places) each is = any-own P at places (All-tail P Bucket places each) is
any-own P at (At addr ∷ places) each is = by (addr == at) refl is (λ rest. any-own P at places (All-tail P (At addr) places each) rest)
  where
    by : (b : Bool) → (addr == at) ≡ b → (b || list_any (is_at at) places) ≡ true → (list_any (is_at at) places ≡ true → P (At at)) → P (At at)
    by true same found rest = subst (λ (n : ℕ). P (At n)) (eqb-true addr at same) (All-head P (At addr) places each)
    by false other found rest = rest found

-- where none can be, none is
pub none-own : (P : Place → Type 0) (at : ℕ) (places : List Place) → All P places → (P (At at) → ⊥) → list_any (is_at at) places ≡ false
none-own P at places each off = by (list_any (is_at at) places) refl
  where
    by : (b : Bool) → list_any (is_at at) places ≡ b → b ≡ false
    by false is = refl
    by true is = absurd (off (any-own P at places each is))

module _ (host_bytes lanes : ℕ) (geometry : Geometry) (laid : IsLaidOut host_bytes lanes geometry) where
  -- a guest has no byte of the mediator's area
  pub image-off : (number : ℕ) (given : Guest) → slice_get geometry.guests number ≡ Some given → (at : ℕ) → geometry.mediator ≤ at
      → at < lane_start geometry.mediator lanes → in_image given at ≡ true → ⊥
  image-off number given found at low high is = by (guest_of (regions_of given) at) (laid.outside number given at found low high) is
    where
      by : (o : Option ℕ) → o ≡ None → is_some o ≡ true → ⊥
      by None none some = cc
      by (Some addr) none some = cc

  -- what a command may name is fixed nowhere
  pub own-off : (number : ℕ) (given : Guest) → slice_get geometry.guests number ≡ Some given → (lane tag at : ℕ) → tag < tag_count
      → IsOwnByte geometry given lane tag at → IsFixed geometry.mediator lanes at → ⊥
  own-off number given found lane tag at below (inl image) fixed =
      image-off number given found at (fixed-low geometry.mediator lanes at fixed) (fixed-high geometry.mediator lanes at fixed) image
  own-off number given found lane tag at below (inr pages) fixed =
      fixed-no_bounce geometry.mediator lanes lane tag at below fixed pages.0 pages.1

-- ---- the list of a command

module _ (host_bytes lanes : ℕ) (geometry : Geometry) (laid : IsLaidOut host_bytes lanes geometry) (w : World) (live : IsLive geometry w)
    (many : length w.lanes ≡ lanes) (lane id : ℕ) (k : Working) (is : IsOfTag geometry w lane id k) where
  abbrev list : ℕ
  list = list_page geometry.mediator lane id

  own_lane : (l : Lane) × ((slice_get w.lanes lane ≡ Some l) × (slice_get l.tags id ≡ Some (Flying is.command is.share InDevice)))
  own_lane = tag-lane (slice_get w.lanes lane) id (Flying is.command is.share InDevice) is.flies

  pub lane-below : lane < lanes
  lane-below = let inside = slice_get-below w.lanes lane own_lane.0 own_lane.1.0 in omega (arith, inside, many)

  -- it stands in its page
  pub list-there : Shows w.host (list_page geometry.mediator lane id) (list_of geometry is.given is.share lane id)
  list-there =
      let found = own_lane.1.0 in
      let d = device-there geometry w lane own_lane.0 live.consistent.of_tags found in
      let fine = live.consistent.of_tags.lanes lane own_lane.0 d.0 found d.1 in
      let held = held-under geometry lane w.host own_lane.0 d.0 fine id (Flying is.command is.share InDevice) own_lane.1.1 in
      by held.0 own_lane.0.head d.0 (fine.tags id (Flying is.command is.share InDevice) held.0 own_lane.1.1 held.1)
    where
      by : (held : Option Held) (head : ℕ) (d : DeviceLane) → IsTag geometry lane id w.host head d held (Flying is.command is.share InDevice)
          → Shows w.host (list_page geometry.mediator lane id) (list_of geometry is.given is.share lane id)
      by None head d flies = absurd flies.stands
      by (Some h) head d flies =
          subst (λ (g : Guest). Shows w.host (list_page geometry.mediator lane id) (list_of geometry g is.share lane id))
          (some-same flies.guest is.given (sym flies.is.given ∙ is.guest)) flies.stands.pages.list

  pub id-below : id < tag_count
  id-below =
      let found = own_lane.1.0 in
      let d = device-there geometry w lane own_lane.0 live.consistent.of_tags found in
      let fine = live.consistent.of_tags.lanes lane own_lane.0 d.0 found d.1 in
      let inside = slice_get-below own_lane.0.tags id (Flying is.command is.share InDevice) own_lane.1.1 in
      let tags = fine.positions.tags in
      omega (arith, inside, tags)

  -- its entry is the guest's
  abbrev physical : List ℕ
  physical = share_entry is.share is.given.namespace is.given is.command.entry geometry.mediator lane id

  pub entry-own : IsOwnEntry geometry is.given lane id (list_of geometry is.given is.share lane id) (ranges_of is.share.plan is.given) physical
  entry-own =
      own-entry host_bytes lanes geometry laid is.command.guest is.given is.guest lane id lane-below id-below is.command.entry is.share is.planned is.some

  -- a memory with the bytes that were read, and others as they are
  abbrev pub read_over : ℕ → ℕ
  read_over at = unwrap_or (k.buffer at) (w.host at)

  -- it has the list
  pub list-read : Shows read_over (list_page geometry.mediator lane id) (list_of geometry is.given is.share lane id)
  list-read =
      bytes_from-agree read_over w.host (list_page geometry.mediator lane id) (length (list_of geometry is.given is.share lane id))
      (λ i inside. same (k.buffer (list_page geometry.mediator lane id + i)) (w.host (list_page geometry.mediator lane id + i)) (λ byte has. is.read i byte inside has))
      ∙ list-there
    where
      same : (o : Option ℕ) (value : ℕ) → ((byte : ℕ) → o ≡ Some byte → value ≡ byte) → unwrap_or o value ≡ value
      same None value each = refl
      same (Some byte) value each = sym (each byte refl)

  -- so what is known of it names bytes of the guest's
  pub known-own : (work : Work) → known k.buffer (reading geometry k.entry) ≡ Some (Go work) → All (NamesOwn geometry is.given lane id) (places_of work.pieces)
  known-own work told =
      verdict-places (NamesOwn geometry is.given lane id) read_over most_descriptors geometry.disk_blocks physical work entry-own.psdt
      (ap (λ (e : List ℕ). in_memory read_over (reading geometry e)) (sym is.entry)
      ∙ known-in k.buffer read_over (reading geometry k.entry) (Go work) (λ at byte has. ap (λ (o : Option ℕ). unwrap_or o (w.host at)) has) told)
      (entry-own.bytes read_over list-read)

  -- and is what its entry says
  pub known-sound : (work : Work) → known k.buffer (reading geometry k.entry) ≡ Some (Go work) → IsSoundWork (λ _. true) geometry.disk_blocks k.entry work
  known-sound work told =
      verdict-sound (λ _. true) most_descriptors geometry.disk_blocks k.entry read_over work
      (known-in k.buffer read_over (reading geometry k.entry) (Go work) (λ at byte has. ap (λ (o : Option ℕ). unwrap_or o (w.host at)) has) told)
