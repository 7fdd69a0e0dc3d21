-- A Submit, from the host, the device and the lane to the world.
use Rattle.std.proofs.Common.{◌≡◌, ℕ, ◌<◌, List, get_or, length, set, slice_get}
use Rattle.std.proofs.Common.{Option, Some, None, arith, sym, ap, ◌∙◌, subst}
use Rattle.std.proofs.lemmas.Option.{slice_get_within}
use Rattle.nv_core.proofs.KeptStates.{IsKeptOf}
use Rattle.nv_laws_sound.proofs.Clear.{clear-span}
use Rattle.nv_laws_sound.proofs.Tails.{length-tails}
use Rattle.nv_core.specs.State.{IsStep, State, world_of}
use Rattle.nv_core.specs.Submit.{HaveRoom, IsSubmitted, host_behind, tag_bytes, tail_behind}
use Rattle.nv_core.specs.Tags.{untaken}
use Rattle.nv_core.proofs.GroupWorlds.{IsTakenHere, group-lane, not-taken, taken-found, taken-step}
use Rattle.nv_core.proofs.Handed.{lane-same, lane-there}
use Rattle.nv_core.proofs.Placed.{owner, owner-there, same-size}
use Rattle.nv_core.proofs.SubmitWorlds.{carried-alike}
use Rattle.nv_device.specs.Physical.{lane_of, with_lane}
use Rattle.nv_device.specs.State.{Physical}
use Rattle.nv_laws_sound.proofs.Lists.{set-same, slice_get-there}
use Rattle.nv_laws_sound.specs.Unplaced.{after_unplaced}
use Rattle.nv_model.specs.Controller.{Controller}
use Rattle.nv_model.specs.Memory.{byte_in}
use Rattle.nv_model.specs.Transcript.{Outcome, Settled, Wanted}
use Rattle.nv_model.specs.declared.reply.Reply.{Reply}
use Rattle.nv_model.specs.declared.reply.Reply.TheVariants as reply
use Rattle.nv_world_model.specs.Area.{list_page}
use Rattle.nv_world_model.specs.Device.{DeviceLane}
use Rattle.nv_world_model.specs.Geometry.{Geometry, Guest, regions_of}
use Rattle.nv_world_model.specs.Plan.{Plan, plan_over}
use Rattle.nv_world_model.specs.Seat.{Owner, owner_by, owner_of}
use Rattle.nv_world_model.specs.Step.{After, for_one, for_owner, replied, step, submit_by}
use Rattle.nv_world_model.specs.World.{Command, Lane, group, group_in, tag_of}
use Rattle.nv_world_model.specs.declared.event.Event.{Event}
use Rattle.nv_world_model.specs.declared.event.Event.TheVariants as event

-- ---- what stays

-- where nothing was carried out, the lane and its tail are as they were
pub submitted-same : (o : Outcome Plan) (guest : Guest) (mediator lane : ℕ) (tags : List ℕ) (command : Command) (r : Reply) (host host_new : ℕ → ℕ)
    (at at_new : ℕ) (l l_new : Lane) → IsSubmitted o guest mediator lane tags command r host host_new at at_new l l_new → (r ≡ reply.Done → ⊥)
    → (at_new ≡ at) × (l_new ≡ l)
submitted-same (Wanted addr len) guest mediator lane tags command r host host_new at at_new l l_new is off = (is.tail, is.tags_are)
submitted-same (Settled plan) guest mediator lane tags command r host host_new at at_new l l_new is off = absurd (off is.0)

-- ---- the event

-- a step but for the places of parts
abbrev pub IsStepBut : Geometry → Event → (old : State) → Reply → (new : State) → Type 0
IsStepBut geometry e old r new =
    after_unplaced (let a : After = record { world = world_of new; reply = r } in a) ≡ after_unplaced (step geometry e (world_of old))

module _ (geometry : Geometry) (s : State) (lane tag : ℕ) where
  pub submit-not : (u : Option Reply) (r : Reply) → u ≡ untaken tag (tag_of (world_of s) lane tag) → u ≡ Some r → IsStep geometry (event.Submit lane tag) s r s
  unfolding step
  submit-not u r is e =
      record { after = sym (not-taken tag (tag_of (world_of s) lane tag) r (world_of s) _ (sym is ∙ e)); size = same-size s }

  module _ (t : IsTakenHere s.lanes lane tag) where
    -- what is done for a guest that is there
    abbrev more : Owner → After
    more o =
        for_one (slice_get s.device.lanes lane) (world_of s)
        (λ d. submit_by (plan_over o.given t.command.entry t.reads) geometry.mediator lane (group (world_of s) lane tag) t.command o (world_of s))

    -- the event of a tag that is taken
    submit-step : step geometry (event.Submit lane tag) (world_of s) ≡ for_owner (owner_of geometry (world_of s) t.command.guest) (world_of s) more
    unfolding step
    submit-step =
        let w = world_of s in
        taken-step w lane tag t (λ command reads. for_owner (owner_of geometry w command.guest) w (λ o. for_one (slice_get w.device lane) w
        (λ d. submit_by (plan_over o.given command.entry reads) geometry.mediator lane (group w lane tag) command o w)))

    -- nobody's command
    pub submit-nobody : (guest : ℕ) → guest ≡ t.command.guest → slice_get geometry.guests guest ≡ None → IsStep geometry (event.Submit lane tag) s reply.Stale s
    submit-nobody guest is none =
        let w = world_of s in
        record {
          after =
              sym (submit-step ∙ ap (λ (g : Option Guest). for_owner (owner_by t.command.guest g (slice_get w.controllers t.command.guest)) w more)
              (subst (λ (n : ℕ). slice_get geometry.guests n ≡ None) is none));
          size = same-size s;
        }

    module _ (guest : Guest) (of : IsKeptOf geometry s) (there : slice_get geometry.guests t.command.guest ≡ Some guest) where
      has : (c : Controller) × (slice_get s.controllers t.command.guest ≡ Some c)
      has =
          let below = slice_get_within geometry.guests t.command.guest guest there in
          let many = of.kept.controllers in
          slice_get-there s.controllers t.command.guest (omega arith)

      abbrev who : Owner
      who = owner t.command.guest guest has.0

      pub on-device : lane < length s.device.lanes
      on-device = (let below = slice_get_within s.lanes lane t.at t.found in let many = of.kept.many in let sides = length-tails s.device.lanes in omega (arith, below, many, sides))

      abbrev d : DeviceLane
      d = lane_of s.device lane

      device-there : slice_get s.device.lanes lane ≡ Some d
      device-there = lane-there lane s.device on-device

      submit-owned : step geometry (event.Submit lane tag) (world_of s)
          ≡ submit_by (plan_over guest t.command.entry t.reads) geometry.mediator lane (group (world_of s) lane tag) t.command who (world_of s)
      submit-owned =
          let w = world_of s in
          submit-step ∙ ap (λ (x : Option Owner). for_owner x w more) (owner-there geometry w t.command.guest guest has.0 there has.1)
          ∙ ap (λ (x : Option DeviceLane). for_one x w (λ e. submit_by (plan_over guest t.command.entry t.reads) geometry.mediator lane (group w lane tag) t.command who w)) device-there

      -- the pages of the lane's tags are the mediator's own
      pub have-room : HaveRoom geometry.mediator lane guest s.host
      have-room other inside =
          let below = slice_get_within s.lanes lane t.at t.found in
          let area = of.laid_out.area in
          record {
            aligned = of.laid_out.pages;
            below = inside;
            area = omega (arith, below, area);
            made_for = (of.laid_out.given t.command.guest guest there).host;
            apart =
                clear-span (regions_of guest) (list_page geometry.mediator lane other) tag_bytes
                (λ at low high. of.laid_out.outside t.command.guest guest at there (omega (arith, low)) (omega (arith, high, below, inside)));
          }

      -- ---- what was carried out

      module _ (l : Lane) (here : slice_get s.lanes lane ≡ Some l) where
        abbrev tags : List ℕ
        tags = group_in (Some l) tag

        -- the device with the doorbell rung
        abbrev rung_to : ℕ → Physical
        rung_to at = with_lane lane (record d { tail = at }) s.device

        -- by what came of it
        by-outcome : (o : Outcome Plan) (r : Reply) (host_new : List ℕ) (at_new : ℕ) (l_new : Lane)
            → IsSubmitted o guest geometry.mediator lane tags t.command r (byte_in s.host) (byte_in host_new) d.tail at_new l l_new
            → after_unplaced
            (let a : After = record { world = world_of (record s { host = host_new; device = rung_to at_new; lanes = set s.lanes lane l_new }); reply = r } in a)
            ≡ after_unplaced (submit_by o geometry.mediator lane tags t.command who (world_of s))
        by-outcome (Wanted addr len) r host_new at_new l_new is =
            let behind : (ℕ → ℕ) → ℕ → Lane → Reply → After = λ h n k x. record {
              world = record (world_of (record s { device = rung_to n; lanes = set s.lanes lane k })) { host = h };
              reply = x;
            } in
            ap after_unplaced
            (ap (behind (byte_in host_new) at_new l_new) is.answered
            ∙ ap (λ (h : ℕ → ℕ). behind h at_new l_new reply.Stale) is.memory
            ∙ ap (λ (n : ℕ). behind (byte_in s.host) n l_new reply.Stale) is.tail
            ∙ ap (λ (k : Lane). behind (byte_in s.host) d.tail k reply.Stale) is.tags_are
            ∙ ap (λ (p : Physical). replied reply.Stale (world_of (record s { device = p; lanes = set s.lanes lane l }))) (lane-same lane s.device on-device)
            ∙ ap (λ (ls : List Lane). replied reply.Stale (record (world_of s) { lanes = ls })) (set-same s.lanes lane l here))
        by-outcome (Settled plan) r host_new at_new l_new is =
            let behind : (ℕ → ℕ) → ℕ → Lane → Reply → After = λ h n k x. record {
              world = record (world_of (record s { device = rung_to n; lanes = set s.lanes lane k })) { host = h };
              reply = x;
            } in
            let host = host_behind plan tags guest t.command.entry geometry.mediator lane d.tail (byte_in s.host) in
            let tail = tail_behind plan tags guest.namespace t.command.entry d.tail in
            ap after_unplaced
            (ap (behind (byte_in host_new) at_new l_new) is.0
            ∙ ap (λ (h : ℕ → ℕ). behind h at_new l_new reply.Done) is.1.memory
            ∙ ap (λ (n : ℕ). behind host n l_new reply.Done) is.1.tail
            ∙ ap (λ (k : Lane). behind host tail k reply.Done) is.1.tags_are)
            ∙ ap (replied reply.Done) (carried-alike (world_of s) geometry.mediator lane tags t.command who l d here device-there plan)

      -- the event
      pub submit-done : (old : State) (i : ℕ) (l l_new : Lane) (host_new : List ℕ) (at at_new : ℕ) (p_new : Physical) (r : Reply) (mediator : ℕ) → s ≡ old
          → i ≡ lane → l ≡ get_or s.lanes i l → mediator ≡ geometry.mediator → at ≡ d.tail
          → p_new ≡ with_lane lane (record d { tail = at_new }) s.device
          → IsSubmitted (plan_over guest t.command.entry t.reads) guest mediator lane (group_in (Some l) tag) t.command r (byte_in s.host) (byte_in host_new) at at_new l l_new
          → IsStepBut geometry (event.Submit lane tag) old r (record s { host = host_new; device = p_new; lanes = set s.lanes i l_new })
      submit-done old i l l_new host_new at at_new p_new r mediator same on found begins tail rings is =
          let o = plan_over guest t.command.entry t.reads in
          let here = taken-found s.lanes lane tag t i l on found in
          let own : IsSubmitted o guest geometry.mediator lane (group_in (Some l) tag) t.command r (byte_in s.host) (byte_in host_new) d.tail at_new l l_new =
          subst (λ (m : ℕ). IsSubmitted o guest m lane (group_in (Some l) tag) t.command r (byte_in s.host) (byte_in host_new) d.tail at_new l l_new) begins
          (subst (λ (n : ℕ). IsSubmitted o guest mediator lane (group_in (Some l) tag) t.command r (byte_in s.host) (byte_in host_new) n at_new l l_new) tail is) in
          subst (λ (x : State). IsStepBut geometry (event.Submit lane tag) x r (record s { host = host_new; device = p_new; lanes = set s.lanes i l_new })) same
          (subst (λ (k : ℕ). IsStepBut geometry (event.Submit lane tag) s r (record s { host = host_new; device = p_new; lanes = set s.lanes k l_new })) (sym on)
          (subst (λ (p : Physical). IsStepBut geometry (event.Submit lane tag) s r (record s { host = host_new; device = p; lanes = set s.lanes lane l_new })) (sym rings)
          (by-outcome l here o r host_new at_new l_new own
          ∙ ap (λ (ts : List ℕ). after_unplaced (submit_by o geometry.mediator lane ts t.command who (world_of s))) (sym (group-lane (world_of s) lane tag l here))
          ∙ sym (ap after_unplaced submit-owned))))
