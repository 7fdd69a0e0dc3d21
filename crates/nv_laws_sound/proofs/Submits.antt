-- A command is handed on share by share, each in its tag, or it ends at once.
use Rattle.std.proofs.Common.{◌≡◌, ℕ, false, List, length, slice_get, Some}
use Rattle.std.proofs.Common.{refl, sym, ap, ◌∙◌, subst}
use Rattle.nv_entry.specs.Status.{StatusField}
use Rattle.nv_entry.specs.StatusCode.{done_with}
use Rattle.nv_entry.specs.declared.status_code.StatusCode.TheVariants.{InternalError}
use Rattle.nv_model.specs.Judge.{form_of}
use Rattle.nv_model.specs.Transcript.{Outcome, ReadDone, Settled, Wanted}
use Rattle.nv_world_model.specs.declared.event.Event.TheVariants as event
use Rattle.nv_world_model.specs.Device.{DeviceLane}
use Rattle.nv_world_model.specs.Geometry.{Geometry, regions_of}
use Rattle.nv_world_model.specs.Plan.{Answer, Bounced, Direct, NoData, Plan, plan_over}
use Rattle.nv_world_model.specs.Share.{Share, shares_of}
use Rattle.nv_world_model.proofs.Seats.{slice_get-set}
use Rattle.nv_world_model.specs.Seat.{Owner, owner_of}
use Rattle.nv_world_model.specs.Step.{carried_out, carry_out, ended_at_once, handed_on, is_success, step, submit_by}
use Rattle.nv_world_model.specs.World.{Command, Lane, Tag, Taken, World, group, tag_changed, tag_of}
use Rattle.nv_world_model.proofs.Seats.{owner_of-is, owner_of-number}
use Rattle.nv_laws_sound.specs.Consistent.{IsConsistentOfTags, IsPlanned}
use Rattle.nv_laws_sound.specs.LaidOut.{IsLaidOut}
use Rattle.nv_laws_sound.proofs.Folds.{group-distinct}
use Rattle.nv_laws_sound.proofs.GroupsKept.{HasGroups, ended-groups}
use Rattle.nv_laws_sound.proofs.HandedOn.{carried-is, handed-fold, handed-groups, no-answer}
use Rattle.nv_laws_sound.proofs.Lists.{length-set}
use Rattle.nv_laws_sound.proofs.Planned.{Answers, IsAnswerOr, IsWhole, Plans, plan_over-is, shares-planned}
use Rattle.nv_laws_sound.proofs.Retags.{is-at}
use Rattle.nv_laws_sound.proofs.Stages.{leader-at, taken-tags}
use Rattle.nv_laws_sound.proofs.SubmitEvents.{carried_out-consistent}
use Rattle.nv_laws_sound.proofs.TagEvents.{IsTakenBy, ended_at_once-consistent}
use Rattle.nv_laws_sound.proofs.Walks.{device-walk, owner-walk, taken-walk}

module _ (host_bytes : ℕ) (geometry : Geometry) where
  -- what each share keeps, where the lane and its device's side are there
  record IsKeptSo (lane : ℕ) (w : World) : Type 0 where
    pub laid : IsLaidOut host_bytes (length w.lanes) geometry
    pub is : IsConsistentOfTags geometry w
    pub l : Lane
    pub at : slice_get w.lanes lane ≡ Some l
    pub d : DeviceLane
    pub there : slice_get w.device lane ≡ Some d

  share-kept : (lane : ℕ) (command : Command) (o : Owner) → slice_get geometry.guests command.guest ≡ Some o.given
      → (w : World) (tag : ℕ) (t : Tag) (share : Share) → tag_of w lane tag ≡ Some t → IsTakenBy command t → IsPlanned o.given command.entry share
      → IsKeptSo lane w → IsKeptSo lane (carried_out geometry.mediator lane tag command share o w)
  share-kept lane command o given w tag t share there taken planned k =
      let c = carried-is w geometry.mediator lane tag command share o k.l k.d k.at k.there in
      let one : Lane = tag_changed tag c.now k.l in
      let many : length (carried_out geometry.mediator lane tag command share o w).lanes ≡ length w.lanes = ap length c.lanes ∙ length-set w.lanes lane one in
      record {
        laid = subst (λ n. IsLaidOut host_bytes n geometry) (sym many) k.laid;
        is = carried_out-consistent host_bytes geometry w lane tag command taken.reads share o k.laid k.is (there ∙ ap (λ x. Some x) taken.is) given planned;
        l = one;
        at = ap (λ ls. slice_get ls lane) c.lanes ∙ slice_get-set w.lanes lane k.l one k.at;
        d = c.d;
        there = c.device;
      }

  abbrev Keeps : World → Type 0
  Keeps z = IsConsistentOfTags geometry z × HasGroups geometry z.lanes

  -- of a command that waits for its plan
  module _ (w : World) (lane leader : ℕ) (l : Lane) (d : DeviceLane) (command : Command) (reads : List ReadDone) (o : Owner)
      (laid : IsLaidOut host_bytes (length w.lanes) geometry) (keeps : Keeps w) (at : slice_get w.lanes lane ≡ Some l)
      (there : slice_get w.device lane ≡ Some d) (found : tag_of w lane leader ≡ Some (Taken command reads)) (leads : command.leader ≡ leader)
      (given : slice_get geometry.guests command.guest ≡ Some o.given) where
    shares-kept : (plan : Plan) → IsWhole o.given command.entry plan
        → Keeps (handed_on geometry.mediator lane (group w lane leader) (shares_of o.given.namespace command.entry plan) command o w)
    shares-kept plan whole =
        let is = keeps.1 lane l at in
        let start : IsKeptSo lane w = record { laid = laid; is = keeps.0; l = l; at = at; d = d; there = there } in (
          (handed-fold (IsKeptSo lane) (IsPlanned o.given command.entry) geometry.mediator lane command o (share-kept lane command o given)
              (group w lane leader) (shares_of o.given.namespace command.entry plan) w (taken-tags geometry w lane leader l command reads at is found leads)
              (group-distinct w lane leader) (shares-planned o.given command.entry plan whole) start).is,
          handed-groups geometry w lane leader l d command reads o plan keeps.1 at there found leads given whole,
        )

    at_once-kept : (st : StatusField) → is_success st ≡ false → Keeps (ended_at_once lane (group w lane leader) command st w)
    at_once-kept st fails =
        let is = keeps.1 lane l at in (
          ended_at_once-consistent geometry lane (group w lane leader) command st w laid.pages
              (taken-tags geometry w lane leader l command reads at is found leads) (group-distinct w lane leader) keeps.0,
          ended-groups geometry w lane leader l command (Taken command reads) keeps.1 at
              (leader-at geometry w lane leader l command reads at is found leads) refl leads st fails,
        )

    pub carried-kept : (plan : Plan) → IsAnswerOr o.given command.entry plan
        → Keeps (carry_out plan geometry.mediator lane (group w lane leader) command o w)
    carried-kept (Answer st) (Answers other fails same) =
        let one : st ≡ other = cc in at_once-kept st (ap is_success one ∙ fails)
    carried-kept (Answer st) (Plans whole) = absurd (no-answer st (form_of whole.work.opcode) (regions_of o.given) whole.work whole.plan_is)
    carried-kept (NoData work) (Plans whole) = shares-kept (NoData work) whole
    carried-kept (Direct work) (Plans whole) = shares-kept (Direct work) whole
    carried-kept (Bounced work) (Plans whole) = shares-kept (Bounced work) whole
    carried-kept (NoData work) (Answers st fails same) = cc
    carried-kept (Direct work) (Answers st fails same) = cc
    carried-kept (Bounced work) (Answers st fails same) = cc

    pub submitted-kept : (outcome : Outcome Plan) → plan_over o.given command.entry reads ≡ outcome
        → Keeps (submit_by outcome geometry.mediator lane (group w lane leader) command o w).world
    submitted-kept (Wanted addr len) over = keeps
    submitted-kept (Settled plan) over = carried-kept plan (plan_over-is o.given command.entry reads plan over)

  -- ---- events

  pub submits-kept : (w : World) (lane tag : ℕ) → IsLaidOut host_bytes (length w.lanes) geometry → Keeps w
      → Keeps (step geometry (event.Submit lane tag) w).world
  unfolding step
  submits-kept w lane tag laid keeps =
      taken-walk Keeps w keeps tag (tag_of w lane tag) _ (λ command reads found leads.
      owner-walk Keeps w keeps (owner_of geometry w command.guest) _ (λ o whose.
      device-walk Keeps w keeps (slice_get w.device lane)
      (λ d. submit_by (plan_over o.given command.entry reads) geometry.mediator lane (group w lane tag) command o w) (λ d there.
      (let a = is-at geometry w lane tag (Taken command reads) keeps.0 found in
      submitted-kept w lane tag a.l d command reads o laid keeps a.at_lane there found leads
      (subst (λ n. slice_get geometry.guests n ≡ Some o.given) (sym (owner_of-number geometry w command.guest o whose))
      (owner_of-is geometry w command.guest o whose).given) (plan_over o.given command.entry reads) refl))))

  pub give_ups-kept : (w : World) (lane tag : ℕ) → IsLaidOut host_bytes (length w.lanes) geometry → Keeps w
      → Keeps (step geometry (event.GiveUp lane tag) w).world
  unfolding step
  give_ups-kept w lane tag laid keeps =
      taken-walk Keeps w keeps tag (tag_of w lane tag) _ (λ command reads found leads.
      (let a = is-at geometry w lane tag (Taken command reads) keeps.0 found in
      let is = keeps.1 lane a.l a.at_lane in (
        ended_at_once-consistent geometry lane (group w lane tag) command (done_with InternalError) w laid.pages
            (taken-tags geometry w lane tag a.l command reads a.at_lane is found leads) (group-distinct w lane tag) keeps.0,
        ended-groups geometry w lane tag a.l command (Taken command reads) keeps.1 a.at_lane
            (leader-at geometry w lane tag a.l command reads a.at_lane is found leads) refl leads (done_with InternalError) refl,
      )))
