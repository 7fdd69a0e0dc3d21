-- The private controller of a guest goes along with the guest's own acts.
use Rattle.std.proofs.Common.{◌≡◌, ℕ, ◌+◌, Bool, true, false, cond, ◌||◌, ◌==◌, List, [], ◌∷◌, length, set, slice_get, Option}
use Rattle.std.proofs.Common.{Some, None, is_some, arith, refl, sym, ap, ◌∙◌, eq-eqb, subst}
use Rattle.nv_mem.specs.GuestMap.{everywhere, host_of, mapped}
use Rattle.nv_model.proofs.Judged.{everywhere-at}
use Rattle.nv_model.proofs.MemoryAlike.{stored-at}
use Rattle.nv_model.proofs.MemoryLemmas.{bytes_from-same, stored-outside}
use Rattle.nv_model.proofs.PutImages.{image-put_image, put_image-elsewhere}
use Rattle.nv_model.specs.Controller.{Controller, doorbell, reg_read, reg_write}
use Rattle.nv_model.specs.Footprint.{loads_from_destination, stores_into}
use Rattle.nv_model.specs.Memory.{byte_at_host, bytes_from, image, put_image, stored}
use Rattle.nv_model.specs.Private.{Acted, ActStep, Private, acted, controlled, register_replied, replied, run_of, step as private_step}
use Rattle.nv_model.specs.declared.act.Act.{Act}
use Rattle.nv_model.specs.declared.act.Act.TheVariants as act
use Rattle.nv_model.specs.declared.reply.Reply.TheVariants as reply
use Rattle.nv_world_model.specs.declared.event.Event.TheVariants as event
use Rattle.nv_world_model.specs.Disciplined.{may_act}
use Rattle.nv_world_model.specs.Geometry.{Geometry, Guest, regions_of, shape_of}
use Rattle.nv_world_model.specs.PrivateSteps.{act_of, is_act, with_act}
use Rattle.nv_world_model.specs.Seat.{Owner, owner_by, owner_of, put_back, seat}
use Rattle.nv_world_model.specs.Step.{After, acted_by, acted_in, for_one, is_done, step}
use Rattle.nv_world_model.specs.World.{World}
use Rattle.nv_world_model.proofs.Seats.{slice_get-set}
use Rattle.nv_laws.specs.Following.{GoesAlong, IsDisciplinedAt, IsReached}
use Rattle.nv_laws.specs.Related.{NoneHides, Related}
use Rattle.nv_laws.proofs.related.Beginning.{not-awaited}
use Rattle.nv_laws.proofs.related.Disciplines.{IsTakenEntry, act-is, commands_of, load-free, order-is, store-apart, tags-untouched}
use Rattle.nv_laws.proofs.related.SeatsRelated.{seat-related}
use Rattle.nv_laws.proofs.related.Undisturbed.{entry_names}

-- a guest that is there, with its private controller's registers
abbrev pub owner_with : (number : ℕ) → Guest → Controller → Owner
owner_with number guest c = record { number = number; given = guest; controller = c }

pub owner-there : (geometry : Geometry) (number : ℕ) (guest : Guest) (w : World) (c : Controller) → slice_get geometry.guests number ≡ Some guest
    → slice_get w.controllers number ≡ Some c → owner_of geometry w number ≡ Some (owner_with number guest c)
owner-there geometry number guest w c given there =
    ap (λ g. owner_by number g (slice_get w.controllers number)) given ∙ ap (owner_by number (Some guest)) there

-- an unmapped address has no byte, in whatever memory
pub image-unmapped : (guest : Guest) (host other : ℕ → ℕ) (at : ℕ) → mapped (regions_of guest) at ≡ false
    → image (regions_of guest) host at ≡ image (regions_of guest) other at
unfolding image
image-unmapped guest host other at out =
    (elim (host_of (regions_of guest) at) as (λ o. is_some o ≡ false → byte_at_host host o ≡ byte_at_host other o) [
      | None ↦ λ e. refl
      | Some x ↦ λ e. cc
    ]) out

-- the event of a guest that is there
guest-step : (geometry : Geometry) (number : ℕ) (o : Owner) (a : Act) (w : World) → owner_of geometry w number ≡ Some o
    → step geometry (event.Guest number a) w ≡ acted_by (acted (shape_of o.given) a (seat geometry o w)) o w
unfolding step acted_in
guest-step geometry number o a w e = ap (λ (x : Option Owner). for_one x w (λ p. acted_by (acted (shape_of p.given) a (seat geometry p w)) p w)) e

-- what two replies and two states of an act have in common
pub record IsSameAct (geometry : Geometry) (number : ℕ) (guest : Guest) (done : After) (q : Acted) : Type 0 where
  pub reply : q.reply ≡ done.reply
  pub related : Related geometry number guest done.world q.state

module _ (host_bytes : ℕ) (geometry : Geometry) (number : ℕ) (guest : Guest) (given : slice_get geometry.guests number ≡ Some guest)
    (w : World) (reached : IsReached host_bytes geometry w) (p : Private) (related : Related geometry number guest w p) where
  abbrev o : Owner
  o = owner_with number guest p.controller

  abbrev mine : ℕ → ℕ
  mine = image (regions_of guest) w.host

  -- a memory that is put back is the image behind, and nothing else of it changes
  image-behind : (memory : ℕ → ℕ) (at : ℕ) → memory at ≡ mine at → image (regions_of guest) (put_image (regions_of guest) memory w.host) at ≡ mine at
  image-behind memory at same =
      (elim (mapped (regions_of guest) at) as (λ b. mapped (regions_of guest) at ≡ b → image (regions_of guest) (put_image (regions_of guest) memory w.host) at ≡ mine at) [
        | true ↦ λ there. image-put_image (regions_of guest) memory w.host at (reached.laid.given number guest given).sound.apart there ∙ same
        | false ↦ λ out. image-unmapped guest (put_image (regions_of guest) memory w.host) w.host at out
      ]) refl

  -- memory and controller are put back in the world as on the private controller
  pub put-related : (memory behind : ℕ → ℕ) (c : Controller)
      → ((entry : List ℕ) → IsTakenEntry number w entry → (at : ℕ) → entry_names guest w.host at entry ≡ true → (memory at ≡ mine at) × (behind at ≡ p.memory at))
      → ((addr : ℕ) → mapped (regions_of guest) addr ≡ true → NoneHides number w addr → behind addr ≡ memory addr)
      → Related geometry number guest (put_back o memory c w) (record p { memory = behind; controller = c })
  unfolding put_back
  put-related memory behind c untouched same =
      seat-related host_bytes geometry number guest given w reached.laid reached.consistent (put_image (regions_of guest) memory w.host) (set w.controllers number c)
      (λ at out. put_image-elsewhere (regions_of guest) memory w.host at out) p behind c related
      (tags-untouched geometry number guest w reached.consistent.groups (put_image (regions_of guest) memory w.host) p.memory behind
      (λ entry taken at named. (sym (image-behind memory at (untouched entry taken at named).0), sym (untouched entry taken at named).1)))
      (slice_get-set w.controllers number p.controller c related.controller)
      (λ addr there none. same addr there none ∙ sym (image-put_image (regions_of guest) memory w.host addr (reached.laid.given number guest given).sound.apart there))

  -- where the controller alone changes
  controlled-same : (x : Option Controller) → IsSameAct geometry number guest (acted_by (controlled x (seat geometry o w)) o w) (controlled x p)
  unfolding seat
  controlled-same None = record { reply = refl; related = related }
  controlled-same (Some c) =
      record {
        reply = refl;
        related = put-related mine p.memory c (λ entry taken at named. (refl, refl)) (λ addr there none. related.memory addr there none);
      }

  register-same : (x : Option ℕ) → IsSameAct geometry number guest (acted_by (register_replied x (seat geometry o w)) o w) (register_replied x p)
  unfolding seat
  register-same None = record { reply = refl; related = related }
  register-same (Some value) = record { reply = refl; related = related }

  store-same : (addr : ℕ) (bytes : List ℕ) (b : Bool) → stores_into (commands_of number guest w p.controller) (act.Store addr bytes) ≡ false
      → IsSameAct geometry number guest
      (acted_by (cond b (replied reply.Done (record (seat geometry o w) { memory = stored (seat geometry o w).memory addr bytes })) (replied reply.Unmapped (seat geometry o w))) o w)
      (cond b (replied reply.Done (record p { memory = stored p.memory addr bytes })) (replied reply.Unmapped p))
  unfolding seat
  store-same addr bytes true free =
      record {
        reply = refl;
        related = put-related (stored mine addr bytes) (stored p.memory addr bytes) p.controller
            (λ entry taken at named.
            let out = store-apart number guest w p.controller addr bytes entry at free taken named in
            (stored-outside mine addr bytes at out, stored-outside p.memory addr bytes at out))
            (λ at there none. stored-at p.memory mine addr bytes at (related.memory at there none));
      }
  store-same addr bytes false free = record { reply = refl; related = related }

  load-same : (addr len : ℕ) (b : Bool) → everywhere (shape_of guest).mapped addr len ≡ b
      → loads_from_destination (commands_of number guest w p.controller) (act.Load addr len) ≡ false
      → IsSameAct geometry number guest
      (acted_by (cond b (replied (reply.Bytes (bytes_from (seat geometry o w).memory addr len)) (seat geometry o w)) (replied reply.Unmapped (seat geometry o w))) o w)
      (cond b (replied (reply.Bytes (bytes_from p.memory addr len)) p) (replied reply.Unmapped p))
  unfolding seat
  load-same addr len true there free =
      record {
        reply = ap (λ bs. reply.Bytes bs)
            (bytes_from-same p.memory mine addr addr len
            (λ i below.
            related.memory (addr + i) (everywhere-at (shape_of guest).mapped addr len i there below)
            (not-awaited geometry number guest w reached.consistent p related (addr + i)
            (load-free number guest w p.controller addr len (addr + i) free (omega arith) (omega (arith, below))))));
        related = related;
      }
  load-same addr len false there free = record { reply = refl; related = related }

  act-same : (a : Act) → stores_into (commands_of number guest w p.controller) a ≡ false → loads_from_destination (commands_of number guest w p.controller) a ≡ false
      → IsSameAct geometry number guest (acted_by (acted (shape_of guest) a (seat geometry o w)) o w) (acted (shape_of guest) a p)
  unfolding seat
  act-same (act.Store addr bytes) stores loads = store-same addr bytes (everywhere (shape_of guest).mapped addr (length bytes)) stores
  act-same (act.Load addr len) stores loads = load-same addr len (everywhere (shape_of guest).mapped addr len) refl loads
  act-same (act.RegRead offset) stores loads = register-same (reg_read p.controller offset)
  act-same (act.RegWrite offset value) stores loads = controlled-same (reg_write (shape_of guest).mapped p.controller offset value)
  act-same (act.Doorbell offset value) stores loads = controlled-same (doorbell p.controller offset value)

  -- the private controller acts
  act-runs : (a : Act) → run_of (shape_of guest) (ActStep a ∷ []) p
      ≡ Some (record { state = (acted (shape_of guest) a p).state; seen = record { act = a; reply = (acted (shape_of guest) a p).reply } ∷ [] })
  unfolding run_of private_step
  act-runs a = refl

  same-goes : (a : Act) (done : After) → IsSameAct geometry number guest done (acted (shape_of guest) a p)
      → GoesAlong geometry number guest (event.Guest number a) w p done
  same-goes a done same =
      let here : (number == number) ≡ true = eq-eqb number number refl in
      record {
        run = record { state = (acted (shape_of guest) a p).state; seen = record { act = a; reply = (acted (shape_of guest) a p).reply } ∷ [] };
        runs = ap (λ b. run_of (shape_of guest) (cond (is_act (cond b (Some a) None) || is_done done.reply) (cond b (ActStep a ∷ []) []) []) p) here ∙ act-runs a;
        seen = ap (λ r. record { act = a; reply = r } ∷ []) same.reply ∙ sym (ap (λ b. with_act (cond b (Some a) None) done.reply []) here);
        related = same.related;
      }

  pub act-goes : (a : Act) → IsDisciplinedAt geometry number guest (event.Guest number a) w
      → GoesAlong geometry number guest (event.Guest number a) w p (step geometry (event.Guest number a) w)
  act-goes a disciplined =
      let here : (number == number) ≡ true = eq-eqb number number refl in
      let order = order-is number guest w (act_of number (event.Guest number a)) p.controller related.controller disciplined.before in
      let free = act-is number guest w a p.controller (sym (ap (λ b. may_act (cond b (Some a) None) (commands_of number guest w p.controller)) here) ∙ order.1) in
      subst (GoesAlong geometry number guest (event.Guest number a) w p)
      (sym (guest-step geometry number o a w (owner-there geometry number guest w p.controller given related.controller)))
      (same-goes a (acted_by (acted (shape_of guest) a (seat geometry o w)) o w) (act-same a free.0 free.1))
