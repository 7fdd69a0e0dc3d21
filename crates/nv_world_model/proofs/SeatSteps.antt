-- What is done for a guest is what its private controller does.
use Rattle.std.proofs.Common.{◌≡◌, ℕ, Bool, true, false, cond, List, length, Option, Some, None, refl, ap}
use Rattle.nv_mem.specs.GuestMap.{IsSound, everywhere}
use Rattle.nv_model.specs.Admin.{AdminStep, NothingToDo, QueueFull, Stepped, admin}
use Rattle.nv_model.specs.Controller.{Controller, doorbell, reg_read, reg_write}
use Rattle.nv_model.specs.Memory.{bytes_from, image, stored}
use Rattle.nv_model.specs.Private.{Acted, AdminQueueStep, Private, Shape, acted, administered, controlled, register_replied, replied, step as private_step}
use Rattle.nv_model.specs.declared.act.Act.{Act}
use Rattle.nv_model.specs.declared.act.Act.TheVariants as act
use Rattle.nv_model.specs.declared.reply.Reply.TheVariants as reply
use Rattle.nv_world_model.specs.declared.event.Event.TheVariants as event
use Rattle.nv_world_model.specs.Geometry.{Geometry, regions_of, shape_of}
use Rattle.nv_world_model.specs.Laws.{IsSeatOf, LeadsTo, OnlyInSeat}
use Rattle.nv_world_model.specs.Seat.{Owner, owner_of, seat}
use Rattle.nv_world_model.specs.Step.{acted_by, acted_in, administered_by, administered_in, for_one, is_done, step}
use Rattle.nv_world_model.specs.World.{World}
use Rattle.nv_world_model.proofs.Seats.{IsOwner, only-nothing, only-put_back, seat-put_back, seat-stands}

-- ---- acts

-- an act that is done changes memory and controller alone, and any other nothing
pub data IsPlain (p : Private) : Acted → Type 0 where
  Changed : (memory : ℕ → ℕ) (c : Controller) → IsPlain p (replied reply.Done (record p { memory = memory; controller = c }))
  Shown : (bytes : List ℕ) → IsPlain p (replied (reply.Bytes bytes) p)
  NotThere : IsPlain p (replied reply.Unmapped p)
  NotDone : IsPlain p (replied reply.Ignored p)

plain-by : (p : Private) (b : Bool) (x y : Acted) → IsPlain p x → IsPlain p y → IsPlain p (cond b x y)
plain-by p true x y so not_so = so
plain-by p false x y so not_so = not_so

plain-controlled : (c : Option Controller) (p : Private) → IsPlain p (controlled c p)
plain-controlled None p = NotDone
plain-controlled (Some c) p = Changed p.memory c

plain-register : (value : Option ℕ) (p : Private) → IsPlain p (register_replied value p)
plain-register None p = NotDone
plain-register (Some value) p = Shown _

acted-plain : (shape : Shape) (a : Act) (p : Private) → IsPlain p (acted shape a p)
acted-plain shape (act.Store addr bytes) p =
    plain-by p (everywhere shape.mapped addr (length bytes)) _ _ (Changed (stored p.memory addr bytes) p.controller) NotThere
acted-plain shape (act.Load addr len) p = plain-by p (everywhere shape.mapped addr len) _ _ (Shown (bytes_from p.memory addr len)) NotThere
acted-plain shape (act.RegRead offset) p = plain-register (reg_read p.controller offset) p
acted-plain shape (act.RegWrite offset value) p = plain-controlled (reg_write shape.mapped p.controller offset value) p
acted-plain shape (act.Doorbell offset value) p = plain-controlled (doorbell p.controller offset value) p

module _ (geometry : Geometry) (w : World) (o : Owner) where
  pub reply-acted : (x : Acted) → IsPlain (seat geometry o w) x → (acted_by x o w).reply ≡ x.reply
  reply-acted x (Changed memory c) = refl
  reply-acted x (Shown bytes) = refl
  reply-acted x NotThere = refl
  reply-acted x NotDone = refl

  pub seat-acted : IsOwner geometry w o → IsSound o.given.memory_map → (x : Acted) → IsPlain (seat geometry o w) x → IsSeatOf o.number o.given (acted_by x o w).world x.state
  seat-acted is sound x (Changed memory c) = seat-put_back geometry w o memory c is sound
  seat-acted is sound x (Shown bytes) = seat-stands geometry w o is
  seat-acted is sound x NotThere = seat-stands geometry w o is
  seat-acted is sound x NotDone = seat-stands geometry w o is

  pub only-acted : (x : Acted) → IsPlain (seat geometry o w) x → OnlyInSeat o w (acted_by x o w).world
  only-acted x (Changed memory c) = only-put_back w o memory c
  only-acted x (Shown bytes) = only-nothing w o
  only-acted x NotThere = only-nothing w o
  only-acted x NotDone = only-nothing w o

-- the event of a guest that is there
pub guest-step : (geometry : Geometry) (number : ℕ) (o : Owner) (a : Act) (w : World) → owner_of geometry w number ≡ Some o
    → step geometry (event.Guest number a) w ≡ acted_by (acted (shape_of o.given) a (seat geometry o w)) o w
unfolding step acted_in
guest-step geometry number o a w e = ap (λ (x : Option Owner). for_one x w (λ p. acted_by (acted (shape_of p.given) a (seat geometry p w)) p w)) e

pub act-plain : (geometry : Geometry) (o : Owner) (a : Act) (w : World) → IsPlain (seat geometry o w) (acted (shape_of o.given) a (seat geometry o w))
act-plain geometry o a w = acted-plain (shape_of o.given) a (seat geometry o w)

-- ---- the admin queue

-- what an admin step gives in the seat
pub own_admin : Owner → World → AdminStep
own_admin o w = admin (shape_of o.given).mapped (shape_of o.given).blocks o.controller (image (regions_of o.given) w.host)

pub admin-step : (geometry : Geometry) (number : ℕ) (o : Owner) (w : World) → owner_of geometry w number ≡ Some o
    → step geometry (event.Admin number) w ≡ administered_by (own_admin o w) o w
unfolding step administered_in own_admin
admin-step geometry number o w e = ap (λ (x : Option Owner). for_one x w (λ p. administered_by (own_admin p w) p w)) e

pub private-admin : (geometry : Geometry) (o : Owner) (w : World) → private_step (shape_of o.given) AdminQueueStep (seat geometry o w) ≡ administered (own_admin o w) (seat geometry o w)
unfolding private_step seat own_admin
private-admin geometry o w = refl

module _ (geometry : Geometry) (w : World) (o : Owner) where
  pub admin-done : IsOwner geometry w o → IsSound o.given.memory_map → (x : AdminStep) → (administered_by x o w).reply ≡ reply.Done
      → private_step (shape_of o.given) AdminQueueStep (seat geometry o w) ≡ administered x (seat geometry o w)
      → LeadsTo geometry o AdminQueueStep w (administered_by x o w).world
  admin-done is sound NothingToDo e made = cc
  admin-done is sound QueueFull e made = cc
  admin-done is sound (Stepped c memory) e made =
      record {
        after = record { state = record (seat geometry o w) { memory = memory; controller = c }; seen = None };
        made = made;
        there = seat-put_back geometry w o memory c is sound;
      }

  pub admin-cannot : (x : AdminStep) → is_done (administered_by x o w).reply ≡ false → administered x (seat geometry o w) ≡ None
  admin-cannot NothingToDo e = refl
  admin-cannot QueueFull e = refl
  admin-cannot (Stepped c memory) e = cc

  pub admin-only : (x : AdminStep) → OnlyInSeat o w (administered_by x o w).world
  admin-only NothingToDo = only-nothing w o
  admin-only QueueFull = only-nothing w o
  admin-only (Stepped c memory) = only-put_back w o memory c
