-- A guest's acts in a world.
use Rattle.std.proofs.Common.{◌≡◌, ℕ, Bool, true, false, cond, List, length, slice_get, Option, Some, None, refl, sym, ap, ◌∙◌}
use Rattle.std.specs.List.{AllPairs}
use Rattle.nv_laws_sound.proofs.Lists.{set-same}
use Rattle.nv_laws_sound.specs.LaidOut.{IsLaidOut}
use Rattle.nv_entry.specs.Layout.{number_bytes}
use Rattle.nv_machine.specs.Doing.{Called, Doing, controller_put, for_one, owner_in, replied, told}
use Rattle.nv_machine.specs.Effects.{Effect, effects_on, stores}
use Rattle.nv_machine.specs.InWorld.{called_in, in_world}
use Rattle.nv_machine.specs.Machine.{acted_in, called, controlled}
use Rattle.nv_machine.proofs.Cases.{both-one}
use Rattle.nv_machine.proofs.Effects.{stores-stored}
use Rattle.nv_machine.proofs.InWorlds.{Is, in-told}
use Rattle.nv_mem.specs.GuestMap.{IsApart, all_mapped}
use Rattle.nv_mem.specs.Places.{addresses}
use Rattle.nv_model.specs.Controller.{Controller, doorbell, reg_read, reg_write}
use Rattle.nv_model.specs.Memory.{bytes_from, image, put_image, stored}
use Rattle.nv_model.specs.Private as private
use Rattle.nv_model.specs.Private.{Acted}
use Rattle.nv_model.specs.declared.act.Act.{Act}
use Rattle.nv_model.specs.declared.act.Act.TheVariants as act
use Rattle.nv_model.specs.declared.reply.Reply.TheVariants as reply
use Rattle.nv_model.proofs.PutImages.{put_image-own}
use Rattle.nv_world_model.specs.Geometry.{Geometry, regions_of, shape_of}
use Rattle.nv_world_model.specs.Seat.{Owner, put_back, seat}
use Rattle.nv_world_model.specs.Step as step
use Rattle.nv_world_model.specs.World.{World, with_controller, with_host}
use Rattle.nv_world_model.specs.declared.event.Event.TheVariants as event
use Rattle.nv_world_model.proofs.Seats.{owner_of-is}

-- a guest's memory and controller are put back, where effects come to this memory
pub in-put_back : (w : World) (m : Doing) (o : Owner) (effects : List Effect) (memory : ℕ → ℕ) (c : Controller)
    → effects_on effects (in_world w m).host ≡ put_image (regions_of o.given) memory (in_world w m).host
    → in_world w (told effects (controller_put o.number c m)) ≡ put_back o memory c (in_world w m)
unfolding put_back
in-put_back w m o effects memory c is =
    in-told w effects (controller_put o.number c m)
    ∙ ap (λ (h : ℕ → ℕ). with_controller o.number c (with_host h (in_world w m))) is

module _ (geometry : Geometry) (w : World) (m : Doing) (o : Owner) (apart : AllPairs IsApart (regions_of o.given))
    (there : slice_get m.side.controllers o.number ≡ Some o.controller) where
  abbrev v : World
  v = in_world w m

  -- by cases of the act
  both-acted : (b : Bool) (c d : Called) (x y : Acted) → (b ≡ true → Is w c (step.acted_by x o v)) → (b ≡ false → Is w d (step.acted_by y o v))
      → Is w (cond b c d) (step.acted_by (cond b x y) o v)
  both-acted true c d x y so not_so = so refl
  both-acted false c d x y so not_so = not_so refl

  -- the controller alone changes
  controller-changed : (new : Option Controller) → Is w (controlled new o m) (step.acted_by (private.controlled new (seat geometry o v)) o v)
  unfolding seat put_back
  controller-changed None = refl
  controller-changed (Some c) =
      ap (λ (h : ℕ → ℕ). let a : step.After = record { world = with_controller o.number c (with_host h v); reply = reply.Done } in Some a)
      (sym (put_image-own (regions_of o.given) v.host apart))

  register-read : (value : Option ℕ) → Is w (for_one value m (λ value. replied (reply.Bytes (number_bytes 4 value)) m)) (step.acted_by (private.register_replied value (seat geometry o v)) o v)
  register-read None = refl
  register-read (Some value) = refl

  -- the memory alone changes
  memory-changed : (effects : List Effect) (memory : ℕ → ℕ) → effects_on effects v.host ≡ put_image (regions_of o.given) memory v.host
      → in_world w (told effects m) ≡ put_back o memory o.controller v
  memory-changed effects memory is =
      ap (λ (cs : List Controller). in_world w (told effects (record m { side = record m.side { controllers = cs } })))
      (sym (set-same m.side.controllers o.number o.controller there))
      ∙ in-put_back w m o effects memory o.controller is

  act-is : (a : Act) (fetched : List ℕ)
      → ((addr len : ℕ) → a ≡ act.Load addr len → all_mapped (regions_of o.given) addr len ≡ true
      → fetched ≡ bytes_from (image (regions_of o.given) v.host) addr len)
      → Is w (acted_in a fetched o m) (step.acted_in geometry a o v)
  unfolding step.acted_in seat
  act-is (act.Store addr bytes) fetched is =
      both-acted (all_mapped (regions_of o.given) addr (length bytes)) _ _ _ _
      (λ fits. ap (λ (x : World). let a : step.After = record { world = x; reply = reply.Done } in Some a)
      (memory-changed (stores (regions_of o.given) (addresses addr (length bytes)) bytes) (stored (image (regions_of o.given) v.host) addr bytes)
      (stores-stored (regions_of o.given) addr bytes v.host apart)))
      (λ no. refl)
  act-is (act.Load addr len) fetched is =
      both-acted (all_mapped (regions_of o.given) addr len) _ _ _ _
      (λ fits. ap (λ (bytes : List ℕ). called_in w (replied (reply.Bytes bytes) m)) (is addr len refl fits)) (λ no. refl)
  act-is (act.RegRead offset) fetched is = register-read (reg_read o.controller offset)
  act-is (act.RegWrite offset value) fetched is = controller-changed (reg_write (shape_of o.given).mapped o.controller offset value)
  act-is (act.Doorbell offset value) fetched is = controller-changed (doorbell o.controller offset value)

-- ---- the event

module _ (host_bytes : ℕ) (geometry : Geometry) (w : World) (m : Doing) (laid : IsLaidOut host_bytes (length m.side.lanes) geometry) where
  pub acts-are : (number : ℕ) (a : Act) (fetched : List ℕ)
      → ((o : Owner) (addr len : ℕ) → owner_in geometry m.side number ≡ Some o → a ≡ act.Load addr len
      → all_mapped (regions_of o.given) addr len ≡ true → fetched ≡ bytes_from (image (regions_of o.given) (in_world w m).host) addr len)
      → Is w (called geometry (event.Guest number a) fetched m) (step.step geometry (event.Guest number a) (in_world w m))
  unfolding called step.step
  acts-are number a fetched is =
      both-one w m (owner_in geometry m.side number) _ _ (λ o whose.
      (let owns = owner_of-is geometry (in_world w m) number o whose in
      act-is geometry w m o (laid.given o.number o.given owns.given).sound.apart owns.controller a fetched (λ addr len. is o addr len whose)))
