-- What is in the drive is the mediator's, in every fine trace from the start.
use Rattle.std.proofs.Common.{◌≡◌, ℕ, ◌+◌, ◌<◌, Bool, List, slice_get, Option, Some, None}
use Rattle.std.proofs.Common.{arith, sym, ap, ◌∙◌, subst}
use Rattle.nv_entry.specs.Completion.{cid_of as completed_cid}
use Rattle.nv_fine.proofs.Commands.{any-own}
use Rattle.nv_fine.proofs.Mirroring.{first_world, start-holds, traced-holds}
use Rattle.nv_fine.proofs.Mirrors.{Holds, IsOfTag}
use Rattle.nv_fine.proofs.Named.{blocks-own, place-own, reads-own}
use Rattle.nv_fine.proofs.Placed.{InRings}
use Rattle.nv_fine.proofs.Quiets.{world-lane_of}
use Rattle.nv_fine.proofs.Spared.{fine, own, quiet-at, quiet-completion, quiet-slot, side-flies}
use Rattle.nv_fine.proofs.Traces.{laid, start-good}
use Rattle.nv_fine.proofs.Within.{IsGood}
use Rattle.nv_fine.proofs.Works.{of-tag}
use Rattle.nv_fine.specs.Drive.{DriveLane, Outside, Working}
use Rattle.nv_fine.specs.Fine.{Access, Fine, traced}
use Rattle.nv_fine.specs.Owned.{IsFresh, IsOfGuest, IsOwned, IsPosted, IsWaiting}
use Rattle.nv_fine.specs.Reach.{IsIn}
use Rattle.nv_fine.specs.Turns.{start_of}
use Rattle.nv_laws_sound.proofs.Lists.{slice_get-below, some-same}
use Rattle.nv_laws_sound.proofs.ReapEvents.{answered-at}
use Rattle.nv_laws_sound.proofs.Slots.{held-under}
use Rattle.nv_laws_sound.proofs.Tails.{tail-of}
use Rattle.nv_laws_sound.proofs.TakenEvents.{queued-at}
use Rattle.nv_laws_sound.specs.Consistent.{IsBetween}
use Rattle.nv_laws_sound.specs.LaidOut.{IsLaidOut}
use Rattle.nv_machine.proofs.ContainedFetch.{AreSound}
use Rattle.nv_machine.proofs.PlaceKept.{lane-same}
use Rattle.nv_machine.specs.InWorld.{side_of}
use Rattle.nv_machine.specs.Entries.{NamesOwn}
use Rattle.nv_mem.specs.Places.{places_of}
use Rattle.nv_model.proofs.Agreeing.{bytes_from-agree}
use Rattle.nv_model.specs.Queue.{cqe_size, sqe_size}
use Rattle.nv_world_model.specs.Area.{completion_slot, submission_slot}
use Rattle.nv_world_model.specs.Geometry.{Geometry}
use Rattle.nv_world_model.specs.SetUp.{SetUp, host_refusal_of}
use Rattle.nv_world_model.specs.Share.{Share}
use Rattle.nv_world_model.specs.World.{Answered, Command, Flying, InDevice, Lane, Queued, Tag, World, tag_in, tag_of}

module _ (host_bytes lanes : ℕ) (geometry : Geometry) (laid : IsLaidOut host_bytes lanes geometry) (f : Fine) (w : World) (good : IsGood lanes geometry f)
    (holds : Holds lanes geometry f w) where
  -- a command
  module _ (lane id : ℕ) (k : Working) (is : IsOfTag geometry w lane id k) where
    abbrev pub of-guest : IsOfGuest geometry f lane id k.entry
    of-guest =
        record {
          command = is.command;
          share = is.share;
          standing = (side-flies host_bytes lanes geometry laid f w good holds lane id is.command is.share InDevice is.flies).0;
          given = is.given;
          flies = (side-flies host_bytes lanes geometry laid f w good holds lane id is.command is.share InDevice is.flies).1;
          guest = is.guest;
          is = is.entry;
        }

  pub in-owned : (lane id : ℕ) (k : Working) → IsIn f.outside lane id k → IsOwned geometry f lane id k
  in-owned lane id k there =
      let is = of-tag host_bytes lanes geometry laid f w good holds lane id there.d k there.on there.is in
      record {
        of = of-guest lane id k is;
        reads = reads-own host_bytes lanes geometry laid f w good holds lane id there.d k there.on there.is;
        places = λ work at has any.
            place-own host_bytes lanes geometry laid f w good holds lane id there.d k there.on there.is at
            (any-own (NamesOwn geometry is.given lane id) at (places_of work.pieces) (is.work work has) any);
        blocks = blocks-own host_bytes lanes geometry laid f w good holds lane id there.d k there.on there.is;
      }

  -- an entry that waits
  pub waiting : (lane slot tail : ℕ) (d : DriveLane) → slice_get f.outside.lanes lane ≡ Some d → slice_get f.side.tails lane ≡ Some tail → IsBetween d.head tail slot
      → IsWaiting geometry f lane slot
  waiting lane slot tail d there at between =
      let v = world-lane_of host_bytes lanes geometry laid f w good holds lane d there in
      let mirror = holds.mirrored lane d v.0 there v.1 in
      let same : tail ≡ v.0.tail = some-same tail v.0.tail (sym at ∙ ap (λ (ts : List ℕ). slice_get ts lane) (sym holds.sides.tails) ∙ tail-of w.device lane v.0 v.1) in
      let waits : IsBetween v.0.head v.0.tail slot = subst (λ n. IsBetween v.0.head n slot) same (subst (λ n. IsBetween n tail slot) mirror.head between) in
      let l = own host_bytes lanes geometry laid f w good holds lane v.0 v.1 in
      let before = fine host_bytes lanes geometry laid f w good holds lane v.0 v.1 in
      let s = before.queued slot waits in
      let held = held-under geometry lane w.host l.0 v.0 before s.tag s.there s.is in
      let a = queued-at geometry lane s.tag slot w.host l.0.head v.0 held.0 s.there (before.tags s.tag s.there held.0 s.is held.1) s.stands in
      let flies = side-flies host_bytes lanes geometry laid f w good holds lane s.tag a.command a.share (Queued slot)
      (ap (λ (o : Option Lane). tag_in o s.tag) l.1 ∙ s.is ∙ ap (λ (t : Tag). Some t) a.flies) in
      record {
        tag = s.tag;
        of = record {
          command = a.command;
          share = a.share;
          standing = flies.0;
          given = a.guest;
          flies = flies.1;
          guest = a.is.given;
          is =
              bytes_from-agree f.outside.memory w.host (submission_slot geometry.mediator lane slot) sqe_size (λ i inside.
              quiet-slot host_bytes lanes geometry laid f w good holds lane v.0 v.1 slot (submission_slot geometry.mediator lane slot + i) waits (omega arith) (omega (arith, inside)))
              ∙ a.entry_is;
        };
      }

  -- a completion that waits
  pub posted : (lane slot : ℕ) (l : Lane) (d : DriveLane) → slice_get f.side.lanes lane ≡ Some l → slice_get f.outside.lanes lane ≡ Some d
      → IsBetween l.head d.posted slot → IsPosted geometry f lane slot d
  posted lane slot l d found there between =
      let v = world-lane_of host_bytes lanes geometry laid f w good holds lane d there in
      let mirror = holds.mirrored lane d v.0 there v.1 in
      let k = own host_bytes lanes geometry laid f w good holds lane v.0 v.1 in
      let before = fine host_bytes lanes geometry laid f w good holds lane v.0 v.1 in
      let same = lane-same (side_of w) f.side holds.sides lane k.0 k.1 in
      let head : l.head ≡ k.0.head = ap (λ (x : Lane). x.head) (some-same l same.k (sym found ∙ same.there)) ∙ ap (λ (x : Lane). x.head) same.same in
      let waits : IsBetween k.0.head v.0.posted slot = subst (λ n. IsBetween k.0.head n slot) mirror.posted (subst (λ n. IsBetween n d.posted slot) head between) in
      let s = before.answered slot waits in
      let held = held-under geometry lane w.host k.0 v.0 before s.tag s.there s.is in
      let a = answered-at geometry lane s.tag slot w.host k.0.head v.0 held.0 s.there (before.tags s.tag s.there held.0 s.is held.1) s.stands in
      let is : tag_of w lane s.tag ≡ Some (Flying a.command a.share (Answered slot)) =
      ap (λ (o : Option Lane). tag_in o s.tag) k.1 ∙ s.is ∙ ap (λ (t : Tag). Some t) a.flies in
      let flies = side-flies host_bytes lanes geometry laid f w good holds lane s.tag a.command a.share (Answered slot) is in
      let inside = slice_get-below w.lanes lane k.0 k.1 in
      let many = holds.many in
      let few = waits.slot in
      let in_lanes : lane < lanes = omega (arith, inside, many) in
      record {
        tag = s.tag;
        names =
            ap completed_cid
            (bytes_from-agree f.outside.memory w.host (completion_slot geometry.mediator lane slot) cqe_size (λ i small.
            (let at : ℕ = completion_slot geometry.mediator lane slot + i in
            quiet-at host_bytes lanes geometry laid f w good holds at (InRings lane in_lanes (omega arith) (omega (arith, few, small)))
            (quiet-completion host_bytes lanes geometry laid f w good holds lane at in_lanes (omega arith) (omega (arith, few, small))))))
            ∙ a.identifier;
        command = a.command;
        share = a.share;
        standing = flies.0;
        flies = flies.1;
        gone = λ j working. apart a.command a.share slot (of-tag host_bytes lanes geometry laid f w good holds lane s.tag d j there working) is;
      }
    where
      apart : {n tag : ℕ} {j : Working} (c : Command) (q : Share) (at : ℕ) → IsOfTag geometry w n tag j → tag_of w n tag ≡ Some (Flying c q (Answered at)) → ⊥
      apart c q at one other = clash (sym one.flies ∙ other)
        where
          clash : Some (Flying one.command one.share InDevice) ≡ Some (Flying c q (Answered at)) → ⊥
          clash e = cc

-- from the start of a set-up that is not refused
module _ (s : SetUp) (o : Outside) (accepted : host_refusal_of s ≡ None) (sound : AreSound s.geometry) (fresh : IsFresh s o) (zeroes : Bool)
    (accesses : List Access) (f : Fine) (is : traced s.geometry zeroes accesses (start_of s o) ≡ Some f) where
  reaches : IsGood s.lanes s.geometry f × ((z : World) × Holds s.lanes s.geometry f z)
  reaches =
      traced-holds s.host_bytes s.lanes s.geometry (laid s o accepted sound) zeroes accesses (start_of s o) f (first_world s o) (start-good s o accepted sound)
      (start-holds s o fresh) is

  pub commands-owned : (lane id : ℕ) (k : Working) → IsIn f.outside lane id k → IsOwned s.geometry f lane id k
  commands-owned = in-owned s.host_bytes s.lanes s.geometry (laid s o accepted sound) f reaches.1.0 reaches.0 reaches.1.1

  pub entries-owned : (lane slot tail : ℕ) (d : DriveLane) → slice_get f.outside.lanes lane ≡ Some d → slice_get f.side.tails lane ≡ Some tail
      → IsBetween d.head tail slot → IsWaiting s.geometry f lane slot
  entries-owned = waiting s.host_bytes s.lanes s.geometry (laid s o accepted sound) f reaches.1.0 reaches.0 reaches.1.1

  pub completions-owned : (lane slot : ℕ) (l : Lane) (d : DriveLane) → slice_get f.side.lanes lane ≡ Some l → slice_get f.outside.lanes lane ≡ Some d
      → IsBetween l.head d.posted slot → IsPosted s.geometry f lane slot d
  completions-owned = posted s.host_bytes s.lanes s.geometry (laid s o accepted sound) f reaches.1.0 reaches.0 reaches.1.1
