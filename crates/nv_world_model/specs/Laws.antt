-- Words of the laws about the world's step
use Rattle.std.specs.Prelude.{◌≡◌, ℕ, ◌⊎◌, ◌==◌, true, false, List, [], ◌∷◌, slice_get, Some, None}
use Rattle.nv_mem.specs.GuestMap.{guest_of, mapped}
use Rattle.nv_model.specs.Memory.{image}
use Rattle.nv_model.specs.Private.{Private, Step, After as PrivateAfter, step as private_step}
use Rattle.nv_model.specs.declared.act.Act.{Act}
use Rattle.nv_model.specs.declared.act.Act.TheVariants as act
use Rattle.nv_model.specs.declared.reply.Reply.{Reply}
use Rattle.nv_model.specs.declared.reply.Reply.TheVariants as reply
use Rattle.nv_ns.specs.Extents.{place_in}
use Rattle.nv_world_model.specs.declared.event.Event.{Event}
use Rattle.nv_world_model.specs.declared.event.Event.TheVariants as event
use Rattle.nv_world_model.specs.Geometry.{Geometry, Guest, regions_of, shape_of}
use Rattle.nv_world_model.specs.Seat.{Owner, seat}
use Rattle.nv_world_model.specs.World.{World}

-- ---- replies

-- a reply is one of these
abbrev pub IsAmong : List Reply → Reply → Type 0
IsAmong [] r = ⊥
IsAmong (x ∷ xs) r = (r ≡ x) ⊎ IsAmong xs r

-- a reply is some bytes, or one of these
abbrev pub IsBytesOr : List Reply → Reply → Type 0
IsBytesOr others r = ((bytes : List ℕ) × (r ≡ reply.Bytes bytes)) ⊎ IsAmong others r

-- the replies that a guest's act may have; Ignored is also that of an event that names what can't be
abbrev pub MayAnswerAct : Act → Reply → Type 0
MayAnswerAct (act.Store addr bytes) r = IsAmong (reply.Done ∷ reply.Unmapped ∷ reply.Ignored ∷ []) r
MayAnswerAct (act.Load addr len) r = IsBytesOr (reply.Unmapped ∷ reply.Ignored ∷ []) r
MayAnswerAct (act.RegRead offset) r = IsBytesOr (reply.Ignored ∷ []) r
MayAnswerAct (act.RegWrite offset value) r = IsAmong (reply.Done ∷ reply.Ignored ∷ []) r
MayAnswerAct (act.Doorbell offset value) r = IsAmong (reply.Done ∷ reply.Ignored ∷ []) r

-- the replies that an event may have
abbrev pub MayAnswer : Event → Reply → Type 0
MayAnswer (event.Guest guest a) r = MayAnswerAct a r
MayAnswer (event.Admin guest) r = IsAmong (reply.Done ∷ reply.Idle ∷ reply.Held ∷ reply.Ignored ∷ []) r
MayAnswer (event.Take guest queue lane) r = IsAmong (reply.Done ∷ reply.Idle ∷ reply.Busy ∷ reply.Ignored ∷ []) r
MayAnswer (event.List lane tag addr len) r = IsBytesOr (reply.Stale ∷ reply.Unmapped ∷ reply.Ignored ∷ []) r
MayAnswer (event.Submit lane tag) r = IsAmong (reply.Done ∷ reply.Stale ∷ reply.Ignored ∷ []) r
MayAnswer (event.GiveUp lane tag) r = IsAmong (reply.Done ∷ reply.Stale ∷ reply.Ignored ∷ []) r
MayAnswer (event.DevTake lane) r = IsAmong (reply.Done ∷ reply.Idle ∷ reply.Ignored ∷ []) r
MayAnswer (event.DevMove lane slot unit) r = IsAmong (reply.Done ∷ reply.Idle ∷ reply.Ignored ∷ []) r
MayAnswer (event.DevPost lane slot) r = IsAmong (reply.Done ∷ reply.Idle ∷ reply.Ignored ∷ []) r
MayAnswer (event.DevFail lane slot st) r = IsAmong (reply.Done ∷ reply.Idle ∷ reply.Ignored ∷ []) r
MayAnswer (event.Keep block) r = IsAmong (reply.Done ∷ reply.Idle ∷ []) r
MayAnswer (event.Reap lane) r = IsAmong (reply.Done ∷ reply.Idle ∷ reply.Ignored ∷ []) r
MayAnswer (event.Post lane tag) r = IsAmong (reply.Done ∷ reply.Stale ∷ reply.Held ∷ reply.Ignored ∷ []) r

-- ---- seats

-- p is a guest's private controller as it is in the world, except for its commands: its controller, its memory where it is mapped, and its blocks
-- with their marks
pub record IsSeatOf (number : ℕ) (guest : Guest) (w : World) (p : Private) : Type 0 where
  pub controller : slice_get w.controllers number ≡ Some p.controller
  pub memory : (addr : ℕ) → mapped (regions_of guest) addr ≡ true → image (regions_of guest) w.host addr ≡ p.memory addr
  pub blocks : (lba offset : ℕ) → w.disk (place_in guest.namespace lba) offset ≡ p.disk lba offset
  pub marks : (lba : ℕ) → w.kept (place_in guest.namespace lba) ≡ p.kept lba

-- nothing of the world but the controller of that guest and bytes of its memory is other than it was
pub record OnlyInSeat (o : Owner) (w z : World) : Type 0 where
  pub bytes : (at : ℕ) → guest_of (regions_of o.given) at ≡ None → z.host at ≡ w.host at
  pub controllers : (other : ℕ) → (other == o.number) ≡ false → slice_get z.controllers other ≡ slice_get w.controllers other
  pub rest : z ≡ record w { host = z.host; controllers = z.controllers }

-- a private step can be made from a guest's seat in w, and leads to its seat in z
pub record LeadsTo (geometry : Geometry) (o : Owner) (s : Step) (w z : World) : Type 0 where
  pub after : PrivateAfter
  pub made : private_step (shape_of o.given) s (seat geometry o w) ≡ Some after
  pub there : IsSeatOf o.number o.given z after.state
