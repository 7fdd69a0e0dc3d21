-- The mediator of a set-up at its start.
use Rattle.std.proofs.Common.{◌≡◌, ℕ, zero, suc, ◌+◌, ◌-◌, ◌*◌, ◌/◌, ◌≤◌, max, Bool, false, List, [], length, replicate, slice_get, Some, arith, sym, subst, ap, ◌∙◌}
use Rattle.std.proofs.Math.Nat.{mul-div-le}
use Rattle.std.proofs.lemmas.List.Folds.{sum_by-replicate}
use Rattle.std.specs.List.{sum}
use Rattle.std.proofs.lemmas.List.{length-replicate}
use Rattle.nv_core.proofs.FrontLaws.{start-kept, start-side}
use Rattle.nv_laws_sound.specs.Side.{Side, opening_side, IsKept}
use Rattle.nv_host.specs.Served.{AreCounted, IsAccepted, IsAtStart, IsServed, LeadsTo, Served, opened}
use Rattle.nv_host.specs.Shares.{AreShares, needed_in_all, opening_spare}
use Rattle.nv_laws_front.proofs.Reached.{start-reached}
use Rattle.nv_laws_sound.proofs.CountedActs.{still-counted}
use Rattle.nv_laws_sound.proofs.CountedRuns.{opening-counted}
use Rattle.nv_laws_sound.specs.Phased.{AreRingsClear}
use Rattle.nv_mem.specs.GuestMap.{IsSound}
use Rattle.nv_model.specs.Memory.{byte_in}
use Rattle.nv_world_model.specs.Area.{tag_count}
use Rattle.nv_world_model.specs.Geometry.{Geometry, Guest}
use Rattle.nv_world_model.specs.SetUp.{SetUp}
use Rattle.nv_world_model.specs.World.{opening_lane, opening_world}

-- equal parts are together no more than what was divided
parts-few : (left count : ℕ) → count * (left / max count 1) ≤ left
parts-few left zero = omega arith
parts-few left (suc count) = (let whole : max (suc count) 1 ≡ suc count = omega arith in subst (λ (n : ℕ). suc count * (left / n) ≤ left) (sym whole) (mul-div-le left (suc count)))

opening-side-counted : (geometry : Geometry) (lanes : ℕ) → AreCounted geometry (opening_side geometry lanes)
opening-side-counted geometry lanes memory w on =
    let start = start-side memory w.disk geometry lanes in
    still-counted geometry (opening_world (byte_in memory) w.disk geometry lanes) w (on.lanes ∙ sym start.lanes) (on.controllers ∙ sym start.controllers)
    (opening-counted (byte_in memory) w.disk geometry lanes)

-- the tags that are left, divided
opening-shares : (guests : List Guest) (left : ℕ) → left + needed_in_all guests ≡ tag_count → AreShares guests (opening_spare guests)
opening-shares guests left all =
    let each : ℕ = (tag_count - needed_in_all guests) / max (length guests) 1 in
    let rest : tag_count - needed_in_all guests ≡ left = omega (arith, all) in
    let few : length guests * each ≤ left = subst (λ (n : ℕ). length guests * (n / max (length guests) 1) ≤ left) (sym rest) (parts-few left (length guests)) in
    let total : sum (opening_spare guests) ≡ length guests * each = sum_by-replicate (λ (n : ℕ). n) (length guests) each in
    record { each = length-replicate (length guests) each; enough = omega (arith, all, few, total) }

-- the side and the layout as they are made
module _ (a s : SetUp) (same : s ≡ a) (g : Geometry) (side : Side) (is : g ≡ s.geometry) (opens : side ≡ opening_side g s.lanes)
    (flags : List Bool) (clear : flags ≡ replicate s.lanes false) (spare : List ℕ) (equal : spare ≡ opening_spare s.geometry.guests) where
  abbrev pub made : Served
  made = record { setup = record { host_bytes = s.host_bytes; lanes = s.lanes; geometry = g }; side = side; closed = flags; spare = spare }

  setup-is : made.setup ≡ s
  setup-is = ap (λ (x : Geometry). let t : SetUp = record { host_bytes = s.host_bytes; lanes = s.lanes; geometry = x } in t) is

  abbrev with_parts : Geometry → Side → List Bool → List ℕ → Served
  with_parts x f bs ns =
      record { setup = record { host_bytes = s.host_bytes; lanes = s.lanes; geometry = x }; side = f; closed = bs; spare = ns }

  pub made-is : made ≡ opened a
  made-is =
      ap (λ (x : Geometry). with_parts x side flags spare) is
      ∙ ap (λ (f : Side). with_parts s.geometry f flags spare) (opens ∙ ap (λ (x : Geometry). opening_side x s.lanes) is)
      ∙ ap (λ (bs : List Bool). with_parts s.geometry (opening_side s.geometry s.lanes) bs spare) clear
      ∙ ap (λ (ns : List ℕ). with_parts s.geometry (opening_side s.geometry s.lanes) (replicate s.lanes false) ns) equal
      ∙ ap opened same

  pub starts-served : (left : ℕ) → left + needed_in_all s.geometry.guests ≡ tag_count → IsAccepted a
      → ((number : ℕ) (guest : Guest) → slice_get g.guests number ≡ Some guest → IsSound guest.memory_map) → IsServed made
  starts-served left all accepted sound =
      record {
        accepted = subst IsAccepted (sym same ∙ sym setup-is) accepted;
        sound = sound;
        lanes = ap (λ (f : Side). length f.lanes) opens ∙ length-replicate s.lanes opening_lane;
        closed = ap (λ (bs : List Bool). length bs) clear ∙ length-replicate s.lanes false;
        shares = subst (λ (x : Geometry). AreShares x.guests spare) (sym is) (subst (AreShares s.geometry.guests) (sym equal) (opening-shares s.geometry.guests left all));
        kept = subst (IsKept g) (sym opens) (start-kept g s.lanes);
        counted = subst (AreCounted g) (sym opens) (opening-side-counted g s.lanes);
      }

-- as it was made, where the memory's rings are clear
pub starts-at : (s : SetUp) (h : Served) (memory : List ℕ) → h ≡ opened s → AreRingsClear h.setup (byte_in memory) → IsAtStart s h memory
starts-at s h memory is clear =
    record {
      setup = ap (λ (x : Served). x.setup) is;
      closed = ap (λ (x : Served). x.closed) is;
      spare = ap (λ (x : Served). x.spare) is;
      led = λ disk.
          subst (λ (x : Served). (let w = opening_world (byte_in memory) disk s.geometry s.lanes in LeadsTo x w memory [] w)) (sym is)
          (start-reached s memory disk (subst (λ (x : Served). AreRingsClear x.setup (byte_in memory)) is clear));
    }

-- the shares as the code makes them
pub spare-is : (a s : SetUp) → s ≡ a → (left count most each : ℕ) → left + needed_in_all a.geometry.guests ≡ tag_count → count ≡ length s.geometry.guests
    → most ≡ max count 1 → each ≡ left / most → replicate count each ≡ opening_spare s.geometry.guests
spare-is a s same left count most each all many is so =
    let needed : needed_in_all s.geometry.guests ≡ needed_in_all a.geometry.guests = ap (λ (x : SetUp). needed_in_all x.geometry.guests) same in
    let rest : left ≡ tag_count - needed_in_all s.geometry.guests = omega (arith, all, needed) in
    let divisor : most ≡ max (length s.geometry.guests) 1 = is ∙ ap (λ (n : ℕ). max n 1) many in
    ap (λ (n : ℕ). replicate n each) many
    ∙ ap (λ (n : ℕ). replicate (length s.geometry.guests) n)
    (so ∙ ap (λ (n : ℕ). n / most) rest ∙ ap (λ (n : ℕ). (tag_count - needed_in_all s.geometry.guests) / n) divisor)
