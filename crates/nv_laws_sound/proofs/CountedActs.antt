-- Each guest's controller counts its commands behind what changes none of them: a tag with the same command, acts and admin steps.
use Rattle.std.proofs.Common.{◌≡◌, ℕ, ◌/◌, ◌%◌, length, set, slice_get, Option, Some, None, IfSome, refl, sym, ap, ◌∙◌, subst}
use Rattle.nv_entry.specs.Status.{StatusField}
use Rattle.nv_mem.specs.GuestMap.{everywhere}
use Rattle.nv_model.specs.Admin.{AdminStep, NothingToDo, QueueFull, Stepped}
use Rattle.nv_model.specs.Controller.{Controller, doorbell, reg_read, reg_write}
use Rattle.nv_model.specs.Private.{Acted, Private, Shape, acted, controlled, register_replied}
use Rattle.nv_model.specs.Running.{IsConsistent as IsRunningWith, IsTogether}
use Rattle.nv_model.specs.declared.act.Act.{Act}
use Rattle.nv_model.specs.declared.act.Act.TheVariants as act
use Rattle.nv_model.proofs.QueuesKept.{by_test}
use Rattle.nv_model.proofs.Running.{behind-running}
use Rattle.nv_model.proofs.TogetherAdmin.{IsAdminBehind}
use Rattle.nv_model.proofs.TogetherKept.{IsBehind, doorbell-together, reg_write-together}
use Rattle.nv_world_model.specs.Area.{tag_count}
use Rattle.nv_world_model.specs.Geometry.{Geometry, Guest, shape_of}
use Rattle.nv_world_model.specs.Seat.{Owner, put_back, seat}
use Rattle.nv_world_model.specs.Step.{acted_by, administered_by, ended_at, standing_at}
use Rattle.nv_world_model.specs.World.{Ended, Flying, Free, Lane, Standing, Tag, Taken, World, tag_changed, tag_in, tag_of, with_tag}
use Rattle.nv_world_model.proofs.Seats.{IsOwner}
use Rattle.nv_world_model.proofs.SeatSteps.{Changed, IsPlain, NotDone, NotThere, Shown, act-plain}
use Rattle.nv_laws_sound.specs.Counted.{IsCounted, command_in, commands}
use Rattle.nv_laws_sound.proofs.Commands.{counted-same, same-commands}
use Rattle.nv_laws_sound.proofs.Lists.{IsThere, Put, Was, set-there}
use Rattle.nv_laws_sound.proofs.Retags.{with_tag-is}

-- ---- a tag with the same command

-- the lane of a tag that is there
pub record HasLane (z : World) (lane tag : ℕ) (t : Tag) : Type 0 where
  pub l : Lane
  pub at : slice_get z.lanes lane ≡ Some l
  pub found : slice_get l.tags tag ≡ Some t

pub lane-of : (z : World) (lane tag : ℕ) (t : Tag) → tag_of z lane tag ≡ Some t → HasLane z lane tag t
lane-of z lane tag t there =
    (elim (slice_get z.lanes lane) as (λ o. slice_get z.lanes lane ≡ o → tag_in o tag ≡ Some t → HasLane z lane tag t) [
      | None ↦ λ at found. cc
      | Some l ↦ λ at found. record { l = l; at = at; found = found }
    ]) refl there

module _ (geometry : Geometry) where
  pub retag-counted : (z : World) (lane tag : ℕ) (t now : Tag) → tag_of z lane tag ≡ Some t
      → ((number : ℕ) → command_in (Some now) tag number ≡ command_in (Some t) tag number) → IsCounted geometry z → IsCounted geometry (with_tag lane tag now z)
  retag-counted z lane tag t now there same is =
      let a = lane-of z lane tag t there in
      subst (IsCounted geometry) (sym (with_tag-is lane tag now z a.l a.at))
      (counted-same geometry z (record z { lanes = set z.lanes lane (tag_changed tag now a.l) }) refl
      (λ number.
      same-commands z.lanes lane tag a.l (tag_changed tag now a.l) t now a.at a.found refl z
      (record z { lanes = set z.lanes lane (tag_changed tag now a.l) }) number refl refl (same number)) is)

  pub stand-counted : (o : Option Tag) (s : Standing) (lane tag : ℕ) (z : World) → tag_of z lane tag ≡ o → IsCounted geometry z
      → IsCounted geometry (standing_at o s lane tag z)
  stand-counted None s lane tag z there is = is
  stand-counted (Some Free) s lane tag z there is = is
  stand-counted (Some (Taken command reads)) s lane tag z there is = is
  stand-counted (Some (Flying command share before)) s lane tag z there is =
      retag-counted z lane tag (Flying command share before) (Flying command share s) there (λ number. refl) is
  stand-counted (Some (Ended command st share)) s lane tag z there is = is

  pub end-counted : (o : Option Tag) (st : StatusField) (lane tag : ℕ) (z : World) → tag_of z lane tag ≡ o → IsCounted geometry z
      → IsCounted geometry (ended_at o st lane tag z)
  end-counted None st lane tag z there is = is
  end-counted (Some Free) st lane tag z there is = is
  end-counted (Some (Taken command reads)) st lane tag z there is = is
  end-counted (Some (Flying command share before)) st lane tag z there is =
      retag-counted z lane tag (Flying command share before) _ there (λ number. refl) is
  end-counted (Some (Ended command before share)) st lane tag z there is = is

  -- lanes and controllers as they were
  pub still-counted : (w z : World) → z.lanes ≡ w.lanes → z.controllers ≡ w.controllers → IsCounted geometry w → IsCounted geometry z
  unfolding commands
  still-counted w z lanes controllers is =
      counted-same geometry w z controllers (λ number. ap (λ ls. (λ name. command_in (tag_in (slice_get ls (name / tag_count)) (name % tag_count)) (name % tag_count) number)) lanes) is

  -- a guest's controller is another one, with the lanes as they were
  controller-counted : (w z : World) (number : ℕ) (guest : Guest) (c : Controller) → z.lanes ≡ w.lanes → z.controllers ≡ set w.controllers number c
      → slice_get geometry.guests number ≡ Some guest → IsRunningWith c (commands w number) → IsCounted geometry w → IsCounted geometry z
  unfolding commands
  controller-counted w z number guest c lanes controllers given running is =
      record {
        running = (λ other g x has at.
            subst (λ ls. IsRunningWith x (λ name. command_in (tag_in (slice_get ls (name / tag_count)) (name % tag_count)) (name % tag_count) other)) (sym lanes)
            (one other g x has (set-there w.controllers number c other x (sym (ap (λ cs. slice_get cs other) controllers) ∙ at))));
      }
    where
      one : (other : ℕ) (g : Guest) (x : Controller) → slice_get geometry.guests other ≡ Some g → IsThere w.controllers number c other x
          → IsRunningWith x (commands w other)
      one other g x has (Put same put) = subst (λ n. IsRunningWith x (commands w n)) (sym same) (subst (λ k. IsRunningWith k (commands w number)) put running)
      one other g x has (Was apart at) = is.running other g x has at

  -- ---- acts and admin steps

  -- what an act makes of the controller
  controlled-behind : (o : Option Controller) (p : Private) → IsTogether p.controller → IfSome o (IsBehind p.controller)
      → IsBehind p.controller (controlled o p).state.controller
  controlled-behind None p was change = (was, refl)
  controlled-behind (Some c) p was change = change

  register-behind : (o : Option ℕ) (p : Private) → IsTogether p.controller → IsBehind p.controller (register_replied o p).state.controller
  register-behind None p was = (was, refl)
  register-behind (Some value) p was = (was, refl)

  act-behind : (shape : Shape) (a : Act) (p : Private) → IsTogether p.controller → IsBehind p.controller (acted shape a p).state.controller
  act-behind shape (act.Store addr bytes) p was =
      by_test (λ (x : Acted). IsBehind p.controller x.state.controller) (everywhere shape.mapped addr (length bytes)) _ _ (λ _. (was, refl)) (λ _. (was, refl))
  act-behind shape (act.Load addr len) p was =
      by_test (λ (x : Acted). IsBehind p.controller x.state.controller) (everywhere shape.mapped addr len) _ _ (λ _. (was, refl)) (λ _. (was, refl))
  act-behind shape (act.RegRead offset) p was = register-behind (reg_read p.controller offset) p was
  act-behind shape (act.RegWrite offset value) p was =
      controlled-behind (reg_write shape.mapped p.controller offset value) p was (reg_write-together shape.mapped p.controller offset value was)
  act-behind shape (act.Doorbell offset value) p was = controlled-behind (doorbell p.controller offset value) p was (doorbell-together p.controller offset value was)

  -- a guest's memory and controller are put back
  pub put_back-counted : (w : World) (o : Owner) (memory : ℕ → ℕ) (c : Controller) → IsOwner geometry w o → IsBehind o.controller c → IsCounted geometry w
      → IsCounted geometry (put_back o memory c w)
  unfolding put_back
  put_back-counted w o memory c owns behind is =
      controller-counted w (put_back o memory c w) o.number o.given c refl refl owns.given
      (behind-running o.controller c (commands w o.number) (is.running o.number o.given o.controller owns.given owns.controller) behind) is

  act-plainly : (w : World) (o : Owner) → IsOwner geometry w o → IsCounted geometry w → (x : Acted) → IsPlain (seat geometry o w) x
      → IsBehind o.controller x.state.controller → IsCounted geometry (acted_by x o w).world
  act-plainly w o owns is x (Changed memory c) behind = put_back-counted w o memory c owns behind is
  act-plainly w o owns is x (Shown bytes) behind = is
  act-plainly w o owns is x NotThere behind = is
  act-plainly w o owns is x NotDone behind = is

  pub act-counted : (w : World) (o : Owner) (a : Act) → IsOwner geometry w o → IsCounted geometry w
      → IsCounted geometry (acted_by (acted (shape_of o.given) a (seat geometry o w)) o w).world
  unfolding seat
  act-counted w o a owns is =
      act-plainly w o owns is _ (act-plain geometry o a w)
      (act-behind (shape_of o.given) a (seat geometry o w) (is.running o.number o.given o.controller owns.given owns.controller).together)

  pub admin-counted : (w : World) (o : Owner) → IsOwner geometry w o → IsCounted geometry w → (x : AdminStep) → IsAdminBehind o.controller x
      → IsCounted geometry (administered_by x o w).world
  admin-counted w o owns is NothingToDo behind = is
  admin-counted w o owns is QueueFull behind = is
  admin-counted w o owns is (Stepped c memory) behind = put_back-counted w o memory c owns behind is
