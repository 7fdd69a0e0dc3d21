-- The replies to a guest's acts: how many bytes they have, and that none is want of memory.
use Rattle.std.proofs.Common.{◌≡◌, ◌≢◌, ℕ, ◌%◌, ◌==◌, Bool, true, false, cond, List, length, slice_get, Option, Some, None, refl, sym, ap, ◌∙◌, subst, inl, inr}
use Rattle.std.proofs.lemmas.Option.{none-some}
use Rattle.nv_core.specs.Seat.{bytes_told}
use Rattle.nv_mem.specs.GuestMap.{everywhere}
use Rattle.nv_model.proofs.Shown.{length-bytes_from}
use Rattle.nv_model.specs.Controller.{Controller, doorbell, reg_write, register}
use Rattle.nv_model.specs.Memory.{bytes_from}
use Rattle.nv_model.specs.Private.{Private, acted, controlled, register_replied, replied}
use Rattle.nv_model.specs.declared.act.Act.{Act}
use Rattle.nv_model.specs.declared.act.Act.TheVariants as act
use Rattle.nv_model.specs.declared.reply.Reply.{Reply}
use Rattle.nv_model.specs.declared.reply.Reply.TheVariants as reply
use Rattle.nv_threads.specs.Told.{bytes_given, bytes_of, room_of}
use Rattle.nv_world.specs.Mediated.{IsLogged, IsStepped, Mediated}
use Rattle.nv_world_model.specs.Geometry.{Geometry, Guest, shape_of}
use Rattle.nv_world_model.specs.Seat.{Owner, owner_by, seat}
use Rattle.nv_world_model.specs.Step.{After, act_put_back, acted_in, for_one, step}
use Rattle.nv_world_model.specs.World.{World}
use Rattle.nv_world_model.specs.declared.event.Event.TheVariants as event

-- a reply to an act: its bytes, if it has some, are that many
abbrev pub IsAnswer : (len : Option ℕ) → Reply → Type 0
IsAnswer len reply.Done = Unit {0}
IsAnswer len (reply.Bytes bytes) = Some (length bytes) ≡ len
IsAnswer len reply.Idle = ⊥
IsAnswer len reply.Busy = ⊥
IsAnswer len reply.Held = ⊥
IsAnswer len reply.Stale = ⊥
IsAnswer len reply.Unmapped = Unit {0}
IsAnswer len reply.Ignored = Unit {0}
IsAnswer len reply.NoMemory = ⊥

stored-answer : (b : Bool) (p q : Private) → IsAnswer None (cond b (replied reply.Done p) (replied reply.Unmapped q)).reply
stored-answer true p q = tt
stored-answer false p q = tt

loaded-answer : (b : Bool) (len : ℕ) (bytes : List ℕ) (p : Private) → length bytes ≡ len
    → IsAnswer (cond b (Some len) None) (cond b (replied (reply.Bytes bytes) p) (replied reply.Unmapped p)).reply
loaded-answer true len bytes p is = ap Some is
loaded-answer false len bytes p is = tt

read-answer : (b : Bool) (value : ℕ) (p : Private) → IsAnswer (cond b (Some 4) None) (register_replied (cond b (Some value) None) p).reply
read-answer true value p = refl
read-answer false value p = tt

written-answer : (o : Option Controller) (p : Private) → IsAnswer None (controlled o p).reply
written-answer None p = tt
written-answer (Some c) p = tt

pub acted-answer : (given : Guest) (a : Act) (p : Private) → IsAnswer (bytes_given given a) (acted (shape_of given) a p).reply
acted-answer given (act.Store addr bytes) p = stored-answer (everywhere (shape_of given).mapped addr (length bytes)) _ p
acted-answer given (act.Load addr len) p =
    loaded-answer (everywhere (shape_of given).mapped addr len) len (bytes_from p.memory addr len) p (length-bytes_from p.memory addr len)
acted-answer given (act.RegRead offset) p = read-answer (offset % 4 == 0) (register p.controller offset) p
acted-answer given (act.RegWrite offset value) p = written-answer (reg_write (shape_of given).mapped p.controller offset value) p
acted-answer given (act.Doorbell offset value) p = written-answer (doorbell p.controller offset value) p

put-answer : (len : Option ℕ) (r : Reply) (p : Private) (o : Owner) (w : World) → IsAnswer len r → IsAnswer len (act_put_back r p o w).reply
put-answer len reply.Done p o w is = is
put-answer len (reply.Bytes bytes) p o w is = is
put-answer len reply.Idle p o w is = is
put-answer len reply.Busy p o w is = is
put-answer len reply.Held p o w is = is
put-answer len reply.Stale p o w is = is
put-answer len reply.Unmapped p o w is = is
put-answer len reply.Ignored p o w is = is
put-answer len reply.NoMemory p o w is = is

owner-answer : (geometry : Geometry) (a : Act) (o : Owner) (w : World) → IsAnswer (bytes_given o.given a) (acted_in geometry a o w).reply
unfolding acted_in
owner-answer geometry a o w =
    put-answer (bytes_given o.given a) (acted (shape_of o.given) a (seat geometry o w)).reply (acted (shape_of o.given) a (seat geometry o w)).state o w
    (acted-answer o.given a (seat geometry o w))

guest-answer : (geometry : Geometry) (a : Act) (number : ℕ) (g : Option Guest) (c : Option Controller) (w : World)
    → IsAnswer (bytes_of g a) (for_one (owner_by number g c) w (λ o. acted_in geometry a o w)).reply
guest-answer geometry a number None c w = tt
guest-answer geometry a number (Some given) None w = tt
guest-answer geometry a number (Some given) (Some c) w = owner-answer geometry a (record { number = number; given = given; controller = c }) w

-- what a guest's act is answered in a world
pub step-answer : (geometry : Geometry) (guest : ℕ) (a : Act) (w : World)
    → IsAnswer (bytes_of (slice_get geometry.guests guest) a) (step geometry (event.Guest guest a) w).reply
unfolding step
step-answer geometry guest a w = guest-answer geometry a guest (slice_get geometry.guests guest) (slice_get w.controllers guest) w

-- it is never want of memory
pub IsAnswer-memory : (len : Option ℕ) (r : Reply) → IsAnswer len r → r ≢ reply.NoMemory
IsAnswer-memory len r is same = subst (IsAnswer len) same is

-- and its bytes are that many
pub IsAnswer-bytes : (len : Option ℕ) (r : Reply) (bytes : List ℕ) → IsAnswer len r → bytes_told r ≡ Some bytes → Some (length bytes) ≡ len
IsAnswer-bytes len (reply.Bytes told) bytes is same = subst (λ (o : Option (List ℕ)). room_of o ≡ len) same is
IsAnswer-bytes len reply.Done bytes is same = cc
IsAnswer-bytes len reply.Idle bytes is same = cc
IsAnswer-bytes len reply.Busy bytes is same = cc
IsAnswer-bytes len reply.Held bytes is same = cc
IsAnswer-bytes len reply.Stale bytes is same = cc
IsAnswer-bytes len reply.Unmapped bytes is same = cc
IsAnswer-bytes len reply.Ignored bytes is same = cc
IsAnswer-bytes len reply.NoMemory bytes is same = cc

-- a guest's act that was logged
logged-reply : (guest : ℕ) (a : Act) (old new : Mediated) (r : Reply) → IsLogged (event.Guest guest a) old r new
    → IsAnswer (bytes_of (slice_get old.setup.geometry.guests guest) a) r
logged-reply guest a old new r is =
    subst (λ (x : After). IsAnswer (bytes_of (slice_get old.setup.geometry.guests guest) a) x.reply) (sym is.after)
    (step-answer old.setup.geometry guest a old.world)

-- where an act's reply is want of memory, nothing has changed
pub act-memory : (guest : ℕ) (a : Act) (old new : Mediated) (r : Reply) → IsStepped (event.Guest guest a) old r new → r ≡ reply.NoMemory → new ≡ old
act-memory guest a old new r (inl same) no_memory = same.1
act-memory guest a old new r (inr is) no_memory =
    absurd (IsAnswer-memory (bytes_of (slice_get old.setup.geometry.guests guest) a) r (logged-reply guest a old new r is) no_memory)

-- its bytes are as many as its room
pub act-bytes : (guest : ℕ) (a : Act) (old new : Mediated) (r : Reply) (bytes : List ℕ) → IsStepped (event.Guest guest a) old r new
    → bytes_told r ≡ Some bytes → Some (length bytes) ≡ bytes_of (slice_get old.setup.geometry.guests guest) a
act-bytes guest a old new r bytes (inl same) told = absurd (none-some bytes (sym (ap bytes_told same.0) ∙ told))
act-bytes guest a old new r bytes (inr is) told =
    IsAnswer-bytes (bytes_of (slice_get old.setup.geometry.guests guest) a) r bytes (logged-reply guest a old new r is) told
