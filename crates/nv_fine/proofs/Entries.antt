-- The drive reads entries and takes them: what it has is the mediator's.
use Rattle.std.proofs.Common.{◌≡◌, ℕ, ◌+◌, ◌<◌, Bool, true, false, cond, ◌&&◌, ◌==◌, nat_lt, List, set, slice_get}
use Rattle.std.proofs.Common.{Option, Some, None, arith, eqb-true, refl, sym, ap, ◌∙◌, subst}
use Rattle.std.proofs.lemmas.Bool.{and_parts, ltb-true}
use Rattle.nv_fine.proofs.Mirrors.{AreMirrored, AreRead, HasRead, Holds, IsLaneMirrored, IsNoted}
use Rattle.nv_fine.proofs.Reaches.{tail-has, when-has}
use Rattle.nv_fine.proofs.Spared.{own, quiet-slot}
use Rattle.nv_fine.proofs.Within.{IsGood}
use Rattle.nv_fine.specs.Drive.{DriveLane, Outside, SeesEntry, driven, has, noted}
use Rattle.nv_fine.specs.Fine.{Call, Fine}
use Rattle.nv_laws_sound.proofs.Lists.{IsThere, Put, Was, length-set, set-there, some-same}
use Rattle.nv_laws_sound.proofs.Tails.{tail-of}
use Rattle.nv_laws_sound.specs.Consistent.{IsBetween}
use Rattle.nv_laws_sound.specs.LaidOut.{IsLaidOut}
use Rattle.nv_laws_sound.specs.Side.{Side}
use Rattle.nv_model.specs.Queue.{ahead, sqe_size}
use Rattle.nv_world_model.specs.Area.{ring_size, submission_slot}
use Rattle.nv_world_model.specs.Device.{DeviceLane}
use Rattle.nv_world_model.specs.Geometry.{Geometry}
use Rattle.nv_world_model.specs.declared.event.Event.TheVariants as event
use Rattle.nv_world_model.specs.World.{Lane, World}

-- ---- one lane of the drive is another

-- what a Reap has read stays what is there, where the slot that is written next is the same
pub read-set : (geometry : Geometry) (s : Side) (ds : List DriveLane) (lane : ℕ) (d now : DriveLane) (host : ℕ → ℕ) → slice_get ds lane ≡ Some d → now.posted ≡ d.posted
    → (o : Option Call) → AreRead geometry s ds host o → AreRead geometry s (set ds lane now) host o
read-set geometry s ds lane d now host there same None are = tt
read-set geometry s ds lane d now host there same (Some c) are = λ n l e is found at. by n l e is found (set-there ds lane now n e at)
  where
    by : (n : ℕ) (l : Lane) (e : DriveLane) → c.event ≡ event.Reap n → slice_get s.lanes n ≡ Some l → IsThere ds lane now n e
        → HasRead geometry host n l.head l.phase e.posted c.fetched
    by n l e is found (Was apart was) = are n l e is found was
    by n l e is found (Put here put) =
        subst (λ (p : ℕ). HasRead geometry host n l.head l.phase p c.fetched) (sym same ∙ ap (λ (x : DriveLane). x.posted) put)
        (are n l d is found (ap (λ (k : ℕ). slice_get ds k) here ∙ there))

pub mirrored-set : (geometry : Geometry) (w : World) (ds : List DriveLane) (lane : ℕ) (now : DriveLane) → AreMirrored geometry w ds
    → ((v : DeviceLane) → slice_get w.device lane ≡ Some v → IsLaneMirrored geometry w lane now v) → AreMirrored geometry w (set ds lane now)
mirrored-set geometry w ds lane now are own n d v at there = by (set-there ds lane now n d at)
  where
    by : IsThere ds lane now n d → IsLaneMirrored geometry w n d v
    by (Was apart was) = are n d v was there
    by (Put here put) =
        subst (λ (x : DriveLane). IsLaneMirrored geometry w n x v) put
        (subst (λ (k : ℕ). IsLaneMirrored geometry w k now v) (sym here) (own v (ap (λ (k : ℕ). slice_get w.device k) (sym here) ∙ there)))

-- the drive goes on in one lane, and memory is as it was
pub drive-holds : (lanes : ℕ) (geometry : Geometry) (f : Fine) (w : World) (lane : ℕ) (d now : DriveLane) (disk : ℕ → ℕ → ℕ) (kept : ℕ → Bool)
    → Holds lanes geometry f w → slice_get f.outside.lanes lane ≡ Some d → now.posted ≡ d.posted
    → ((v : DeviceLane) → slice_get w.device lane ≡ Some v → IsLaneMirrored geometry w lane now v)
    → Holds lanes geometry (record f { outside = record f.outside { lanes = set f.outside.lanes lane now; disk = disk; kept = kept } }) w
drive-holds lanes geometry f w lane d now disk kept holds there same own =
    record {
      live = holds.live;
      many = holds.many;
      sides = holds.sides;
      drives = length-set f.outside.lanes lane now ∙ holds.drives;
      mirrored = mirrored-set geometry w f.outside.lanes lane now holds.mirrored own;
      memory = holds.memory;
      placed = holds.placed;
      read = read-set geometry f.side f.outside.lanes lane d now w.host there same f.call holds.read;
    }

module _ (host_bytes lanes : ℕ) (geometry : Geometry) (laid : IsLaidOut host_bytes lanes geometry) (f : Fine) (w : World) (good : IsGood lanes geometry f)
    (holds : Holds lanes geometry f w) where
  abbrev Next : Fine → Type 0
  Next g = (z : World) × Holds lanes geometry g z

  abbrev with : Outside → Fine
  with p = record f { outside = p }

  -- the tail of a lane's submission ring as the doorbell has it
  pub tail-is : (lane tail : ℕ) (v : DeviceLane) → slice_get w.device lane ≡ Some v → slice_get f.side.tails lane ≡ Some tail → tail ≡ v.tail
  tail-is lane tail v there at =
      some-same tail v.tail (sym at ∙ ap (λ (ts : List ℕ). slice_get ts lane) (sym holds.sides.tails) ∙ tail-of w.device lane v there)

  -- ---- a byte of an entry is read

  module _ (zeroes : Bool) (p : Outside) where
    pub sees-entry : (lane slot i : ℕ) → driven geometry zeroes f.side.tails (SeesEntry lane slot i) f.outside ≡ Some p → Next (with p)
    unfolding driven
    sees-entry lane slot i is =
        tail-has geometry f.side.tails f.outside lane _ p (Next (with p)) is (λ d tail there at ruled.
        when-has (nat_lt i sqe_size && nat_lt slot ring_size && nat_lt (ahead ring_size d.head slot) (ahead ring_size d.head tail)) _ p (λ q. Next (with q)) ruled
        (λ may. (w, noting lane slot i d tail there at may)))
      where
        noting : (lane slot i : ℕ) (d : DriveLane) (tail : ℕ) → slice_get f.outside.lanes lane ≡ Some d → slice_get f.side.tails lane ≡ Some tail
            → (nat_lt i sqe_size && nat_lt slot ring_size && nat_lt (ahead ring_size d.head slot) (ahead ring_size d.head tail)) ≡ true
            → Holds lanes geometry
            (with (record f.outside { lanes = set f.outside.lanes lane (record d { seen = noted (submission_slot geometry.mediator lane slot + i) f.outside.memory d.seen }) })) w
        noting lane slot i d tail there at may =
            drive-holds lanes geometry f w lane d (record d { seen = noted (submission_slot geometry.mediator lane slot + i) f.outside.memory d.seen }) f.outside.disk
            f.outside.kept holds there refl one
          where
            to : ℕ
            to = submission_slot geometry.mediator lane slot + i

            both : (nat_lt i sqe_size && nat_lt slot ring_size ≡ true) × (nat_lt (ahead ring_size d.head slot) (ahead ring_size d.head tail) ≡ true)
            both = and_parts (nat_lt i sqe_size && nat_lt slot ring_size) (nat_lt (ahead ring_size d.head slot) (ahead ring_size d.head tail)) may

            inside : i < sqe_size
            inside = ltb-true i sqe_size (and_parts (nat_lt i sqe_size) (nat_lt slot ring_size) both.0).0

            few : slot < ring_size
            few = ltb-true slot ring_size (and_parts (nat_lt i sqe_size) (nat_lt slot ring_size) both.0).1

            one : (v : DeviceLane) → slice_get w.device lane ≡ Some v
                → IsLaneMirrored geometry w lane (record d { seen = noted (submission_slot geometry.mediator lane slot + i) f.outside.memory d.seen }) v
            one v under =
                record {
                  head = mirror.head;
                  posted = mirror.posted;
                  phase = mirror.phase;
                  seen = λ a byte has. by a byte (a == to) refl has;
                  working = mirror.working;
                }
              where
                mirror : IsLaneMirrored geometry w lane d v
                mirror = holds.mirrored lane d v there under

                between : IsBetween v.head v.tail slot
                between =
                    subst (λ n. IsBetween v.head n slot) (tail-is lane tail v under at)
                    (subst (λ n. IsBetween n tail slot) mirror.head
                    (record { slot = few; before = ltb-true (ahead ring_size d.head slot) (ahead ring_size d.head tail) both.1 }))

                by : (a byte : ℕ) (b : Bool) → (a == to) ≡ b → cond b (Some (f.outside.memory to)) (d.seen a) ≡ Some byte → IsNoted geometry w lane v a byte
                by a byte false other has = mirror.seen a byte has
                by a byte true here has =
                    let same : a ≡ to = eqb-true a to here in
                    record {
                      slot = slot;
                      between = between;
                      low = omega (arith, same);
                      high = omega (arith, same, inside);
                      same =
                          ap w.host same
                          ∙ sym (quiet-slot host_bytes lanes geometry laid f w good holds lane v under slot to between (omega arith) (omega (arith, inside)))
                          ∙ some-same (f.outside.memory to) byte has;
                    }
