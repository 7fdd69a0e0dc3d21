-- Events of the physical controller, from the device to the world.
use Rattle.std.proofs.Common.{◌≡◌, ℕ, ◌<◌, ◌≤◌, Bool, true, false, cond, ◌&&◌, ◌==◌, nat_lt, zero, suc, List, [], ◌∷◌, get_or, length, set, slice_get, Option}
use Rattle.std.proofs.Common.{Some, None, arith, refl, sym, ap, ◌∙◌, subst}
use Rattle.std.specs.Prelude.{IfSome}
use Rattle.std.specs.List.{list_any}
use Rattle.std.proofs.lemmas.Bool.Decides.{nat_tests}
use Rattle.std.proofs.lemmas.Option.{slice_get_past}
use Rattle.nv_core.specs.Answers.{said}
use Rattle.nv_core.specs.State.{IsOf, IsStep, State, world_of}
use Rattle.nv_core.proofs.DeviceNeeds.{IsHoldingAt, has-sides, holding-at}
use Rattle.nv_core.proofs.Placed.{same-size}
use Rattle.nv_device.specs.Moving.{IsMoved}
use Rattle.nv_device.specs.Physical.{done_where, has_left, held_at}
use Rattle.nv_device.specs.State.{Physical}
use Rattle.nv_device.specs.declared.response.Response.{Response}
use Rattle.nv_device.specs.declared.response.Response.TheVariants as response
use Rattle.nv_model.specs.Controller.{Controller}
use Rattle.nv_model.specs.Memory.{byte_in}
use Rattle.nv_model.specs.Private.{Moved}
use Rattle.nv_model.specs.declared.reply.Reply.{Reply}
use Rattle.nv_model.specs.declared.reply.Reply.TheVariants as reply
use Rattle.nv_disk.specs.Flat.{byte_of_block, moved_of}
use Rattle.nv_disk.specs.Marks.{mark_of}
use Rattle.nv_world_model.specs.Area.{tag_count}
use Rattle.nv_world_model.specs.Device.{DeviceLane, Held, device_unit, unit_gone, with_held}
use Rattle.nv_world_model.specs.Geometry.{Geometry}
use Rattle.nv_world_model.specs.Step.{After, device_move, device_moved, for_one, for_held, replied, step}
use Rattle.nv_world_model.specs.World.{Lane, World, changed_at}
use Rattle.nv_world_model.specs.declared.event.Event.{Event}
use Rattle.nv_world_model.specs.declared.event.Event.TheVariants as event

-- ---- worlds

-- worlds whose parts are the same
pub same-world : (w v : World) → w.host ≡ v.host → w.disk ≡ v.disk → w.kept ≡ v.kept → w.device ≡ v.device → w.lanes ≡ v.lanes
    → w.controllers ≡ v.controllers → w ≡ v
same-world w v hosts disks marks devices lanes controllers =
    ap (λ (x : ℕ → ℕ). let u : World = record w { host = x } in u) hosts
    ∙ ap (λ (x : ℕ → ℕ → ℕ). let u : World = record w { host = v.host; disk = x } in u) disks
    ∙ ap (λ (x : ℕ → Bool). let u : World = record w { host = v.host; disk = v.disk; kept = x } in u) marks
    ∙ ap (λ (x : List DeviceLane). let u : World = record w { host = v.host; disk = v.disk; kept = v.kept; device = x } in u) devices
    ∙ ap (λ (x : List Lane). let u : World = record w { host = v.host; disk = v.disk; kept = v.kept; device = v.device; lanes = x } in u) lanes
    ∙ ap (λ (x : List Controller). let u : World = record v { controllers = x } in u) controllers

abbrev pub after : World → Reply → After
after w r = record { world = w; reply = r }

-- ---- commands in the device

-- an event of a command in the device
abbrev pub held_event : (Held → DeviceLane → After) → (lane slot : ℕ) → World → After
held_event more lane slot w = for_one (slice_get w.device lane) w (λ d. for_held (slice_get d.held slot) w (λ h. more h d))

module _ (geometry : Geometry) (s : State) (is : IsOf geometry s) (lane slot : ℕ) (more : Held → DeviceLane → After) where
  -- no such lane, or no such slot
  pub no-slot : (nat_lt lane (length s.device.lanes) && nat_lt slot tag_count) ≡ false → held_event more lane slot (world_of s) ≡ replied reply.Ignored (world_of s)
  no-slot none = by_lane (nat_lt lane (length s.device.lanes)) refl none
    where
      by_slot : nat_lt lane (length s.device.lanes) ≡ true → nat_lt slot tag_count ≡ false → held_event more lane slot (world_of s) ≡ replied reply.Ignored (world_of s)
      by_slot there past =
          let below : lane < length s.device.lanes = grind (arith, nat_tests) in
          let sides = has-sides geometry s lane is below in
          let sized = (is.consistent.of_tags.lanes lane sides.l sides.d sides.at_lane sides.at_device).positions.held in
          let least : tag_count ≤ slot = grind (arith, nat_tests) in
          ap (λ (o : Option DeviceLane). for_one o (world_of s) (λ d. for_held (slice_get d.held slot) (world_of s) (λ h. more h d))) sides.at_device
          ∙ ap (λ (o : Option (Option Held)). for_held o (world_of s) (λ h. more h sides.d)) (slice_get_past sides.d.held slot (omega (arith, sized, least)))

      by_lane : (b : Bool) → nat_lt lane (length s.device.lanes) ≡ b → (b && nat_lt slot tag_count) ≡ false
          → held_event more lane slot (world_of s) ≡ replied reply.Ignored (world_of s)
      by_lane true there past = by_slot there past
      by_lane false past any =
          let least : length s.device.lanes ≤ lane = grind (arith, nat_tests) in
          ap (λ (o : Option DeviceLane). for_one o (world_of s) (λ d. for_held (slice_get d.held slot) (world_of s) (λ h. more h d)))
          (slice_get_past s.device.lanes lane least)

  -- no command there
  pub none-held : lane < length s.device.lanes → slot < tag_count → held_at s.device lane slot ≡ None
      → held_event more lane slot (world_of s) ≡ replied reply.Idle (world_of s)
  none-held below slot_below none =
      let sides = has-sides geometry s lane is below in
      let sized = (is.consistent.of_tags.lanes lane sides.l sides.d sides.at_lane sides.at_device).positions.held in
      ap (λ (o : Option DeviceLane). for_one o (world_of s) (λ d. for_held (slice_get d.held slot) (world_of s) (λ h. more h d))) sides.at_device
      ∙ ap (λ (o : Option (Option Held)). for_held o (world_of s) (λ h. more h sides.d))
      (empty sides.d.held slot (omega (arith, sized, slot_below)) (sym (ap (λ (d : DeviceLane). get_or d.held slot None) sides.seen) ∙ none))
    where
      empty : (xs : List (Option Held)) (i : ℕ) → i < length xs → get_or xs i None ≡ None → slice_get xs i ≡ Some None
      empty [] i among e = absurd (omega arith)
      empty (x ∷ xs) zero among e = ap (λ (o : Option Held). Some o) e
      empty (x ∷ xs) (suc i) among e = empty xs i (omega arith) e

  -- a command
  pub some-held : (h : Held) (a : IsHoldingAt geometry s lane slot h) → held_event more lane slot (world_of s) ≡ more h a.sides.d
  some-held h a =
      ap (λ (o : Option DeviceLane). for_one o (world_of s) (λ d. for_held (slice_get d.held slot) (world_of s) (λ h. more h d))) a.sides.at_device
      ∙ ap (λ (o : Option (Option Held)). for_held o (world_of s) (λ h. more h a.sides.d)) a.at_held

-- ---- nothing is done

-- host and device are as they were
pub stays : (geometry : Geometry) (e : Event) (s : State) (r : Reply) (host : List ℕ) (device : Physical)
    → (device ≡ s.device) × (host ≡ s.host) → step geometry e (world_of s) ≡ replied r (world_of s)
    → IsStep geometry e s r (record s { host = host; device = device })
stays geometry e s r host device same is =
    subst (λ (h : List ℕ). IsStep geometry e s r (record s { host = h; device = device })) (sym same.1)
    (subst (λ (p : Physical). IsStep geometry e s r (record s { device = p })) (sym same.0)
    (record { after = sym is; size = same-size s }))

-- ---- a unit moves

module _ (geometry : Geometry) (s : State) (is : IsOf geometry s) (lane slot number : ℕ) where
  moved-world : (h : Held) (a : IsHoldingAt geometry s lane slot h) (host : List ℕ) (device : Physical)
      → IsMoved lane slot number h s.host s.device host device
      → world_of (record s { host = host; device = device }) ≡ device_moved geometry.disk_blocks lane slot number h (world_of s)
  unfolding device_moved moved_of
  moved-world h a host device m =
      let unit : ℕ → Moved = λ blocks. device_unit number blocks h (byte_in s.host) (byte_of_block s.device.disk) (mark_of s.device.kept) in
      let gone : Moved → List DeviceLane → DeviceLane → List DeviceLane = λ u ds d. set ds lane (with_held slot (Some (unit_gone number u.differed h)) d) in
      same-world (world_of (record s { host = host; device = device })) (device_moved geometry.disk_blocks lane slot number h (world_of s))
      (ap (λ (u : Moved). u.memory) m.moved ∙ ap (λ (n : ℕ). (unit n).memory) is.blocks)
      (ap (λ (u : Moved). u.disk) m.moved ∙ ap (λ (n : ℕ). (unit n).disk) is.blocks)
      (ap (λ (u : Moved). u.kept) m.moved ∙ ap (λ (n : ℕ). (unit n).kept) is.blocks)
      (m.lanes
      ∙ ap (λ (d : DeviceLane). gone (unit (length s.device.disk)) s.device.lanes d) a.sides.seen
      ∙ ap (λ (n : ℕ). gone (unit n) s.device.lanes a.sides.d) is.blocks
      ∙ sym (ap (λ (o : Option DeviceLane). changed_at o lane (with_held slot (Some (unit_gone number (unit geometry.disk_blocks).differed h))) s.device.lanes) a.sides.at_device))
      refl refl

  abbrev moves : Held → DeviceLane → After
  moves h d = device_move geometry.disk_blocks lane slot number h (world_of s)

  pub move-step : (r : Response) (host : List ℕ) (device : Physical) → lane < length s.device.lanes → slot < tag_count
      → r ≡ done_where (has_left number (held_at s.device lane slot))
      → (r ≡ response.Done → IfSome (held_at s.device lane slot) (λ h. IsMoved lane slot number h s.host s.device host device))
      → (r ≡ response.Idle → (device ≡ s.device) × (host ≡ s.host))
      → length host ≡ length s.host → length device.disk ≡ length s.device.disk
      → IsStep geometry (event.DevMove lane slot number) s (said r) (record s { host = host; device = device })
  unfolding step
  move-step r host device below slot_below told done idle sized disk = by_held (held_at s.device lane slot) refl
    where
      as_told : (q : Response) → r ≡ q → IsStep geometry (event.DevMove lane slot number) s (said q) (record s { host = host; device = device })
          → IsStep geometry (event.DevMove lane slot number) s (said r) (record s { host = host; device = device })
      as_told q e goes = subst (λ (x : Response). IsStep geometry (event.DevMove lane slot number) s (said x) (record s { host = host; device = device })) (sym e) goes

      by_left : (h : Held) → held_at s.device lane slot ≡ Some h → (b : Bool) → list_any (λ k. k == number) h.left ≡ b
          → IsStep geometry (event.DevMove lane slot number) s (said r) (record s { host = host; device = device })
      by_left h e true left =
          let a = holding-at geometry s lane slot h is below e in
          let is_done : r ≡ response.Done = told ∙ ap (λ (o : Option Held). done_where (has_left number o)) e ∙ ap done_where left in
          let m : IsMoved lane slot number h s.host s.device host device =
          subst (λ (o : Option Held). IfSome o (λ x. IsMoved lane slot number x s.host s.device host device)) e (done is_done) in
          as_told response.Done is_done (record {
            after =
                ap (λ (w : World). after w reply.Done) (moved-world h a host device m)
                ∙ sym (some-held geometry s is lane slot moves h a
                ∙ ap (λ (b : Bool). cond b (replied reply.Done (device_moved geometry.disk_blocks lane slot number h (world_of s))) (replied reply.Idle (world_of s))) left);
            size = record { host = sized; mediator = m.mediator; blocks = disk };
          })
      by_left h e false left =
          let a = holding-at geometry s lane slot h is below e in
          let is_idle : r ≡ response.Idle = told ∙ ap (λ (o : Option Held). done_where (has_left number o)) e ∙ ap done_where left in
          as_told response.Idle is_idle (stays geometry (event.DevMove lane slot number) s reply.Idle host device (idle is_idle)
          (some-held geometry s is lane slot moves h a
          ∙ ap (λ (b : Bool). cond b (replied reply.Done (device_moved geometry.disk_blocks lane slot number h (world_of s))) (replied reply.Idle (world_of s))) left))

      by_held : (o : Option Held) → held_at s.device lane slot ≡ o
          → IsStep geometry (event.DevMove lane slot number) s (said r) (record s { host = host; device = device })
      by_held None e =
          let is_idle : r ≡ response.Idle = told ∙ ap (λ (o : Option Held). done_where (has_left number o)) e in
          as_told response.Idle is_idle (stays geometry (event.DevMove lane slot number) s reply.Idle host device (idle is_idle)
          (none-held geometry s is lane slot moves below slot_below e))
      by_held (Some h) e = by_left h e (list_any (λ k. k == number) h.left) refl

  pub move-no_slot : (nat_lt lane (length s.device.lanes) && nat_lt slot tag_count) ≡ false
      → IsStep geometry (event.DevMove lane slot number) s reply.Ignored s
  unfolding step
  move-no_slot none = record { after = sym (no-slot geometry s is lane slot moves none); size = same-size s }

-- a test of two parts that is passed
pub both-below : (a b c d : ℕ) (t : Bool) → t ≡ (nat_lt a b && nat_lt c d) → t ≡ true → (a < b) × (c < d)
both-below a b c d t is e = (grind (arith, nat_tests), grind (arith, nat_tests))
