-- What a command leaves that is handed on share by share, or that ends at once.
use Rattle.std.proofs.Common.{◌≡◌, ℕ, List, [], ◌∷◌, length, slice_get, Some, refl, sym, ap, ◌∙◌, subst}
use Rattle.std.specs.List.{All}
use Rattle.std.proofs.lemmas.List.Elements.{All-head, All-tail}
use Rattle.nv_model.specs.Transcript.{Outcome, ReadDone, Settled, Wanted}
use Rattle.nv_world_model.specs.declared.event.Event.TheVariants as event
use Rattle.nv_world_model.specs.Contained.{guest_of_one}
use Rattle.nv_world_model.specs.Geometry.{Geometry}
use Rattle.nv_world_model.specs.Plan.{Answer, Bounced, Direct, NoData, Plan, plan_over}
use Rattle.nv_world_model.specs.Share.{Share, shares_of}
use Rattle.nv_world_model.specs.Seat.{Owner, owner_of}
use Rattle.nv_world_model.specs.Step.{carried_out, carry_out, handed_on, step, submit_by}
use Rattle.nv_world_model.specs.World.{Command, Taken, World, group, tag_changed, tag_of}
use Rattle.nv_world_model.proofs.Seats.{owner_of-is, owner_of-number}
use Rattle.nv_laws_sound.specs.Consistent.{IsConsistentOfTags, IsPlanned}
use Rattle.nv_laws_sound.specs.LaidOut.{IsLaidOut}
use Rattle.nv_laws_sound.proofs.Folds.{HasTag, group-distinct, have-other}
use Rattle.nv_laws_sound.proofs.GroupsKept.{HasGroups}
use Rattle.nv_laws_sound.proofs.Lists.{length-set}
use Rattle.nv_laws_sound.proofs.Numbers.{AreDistinct}
use Rattle.nv_laws_sound.proofs.Planned.{Answers, IsAnswerOr, IsWhole, Plans, plan_over-is, shares-planned}
use Rattle.nv_laws_sound.proofs.Retags.{is-at}
use Rattle.nv_laws_sound.proofs.Stages.{taken-tags}
use Rattle.nv_laws_sound.proofs.SubmitEvents.{carried_out-consistent}
use Rattle.nv_laws_sound.proofs.HandedOn.{carried-is, share-other}
use Rattle.nv_laws_sound.proofs.TagEvents.{IsTakenBy}
use Rattle.nv_laws_sound.proofs.Walks.{device-walk, owner-walk, taken-walk}
use Rattle.nv_laws.specs.Leaving.{Leaves}
use Rattle.nv_laws.proofs.others.DeviceEvents.{carried-leaves}
use Rattle.nv_laws.proofs.others.Events.{leaves-nothing}
use Rattle.nv_laws.proofs.others.LeavesFolds.{at_once-leaves, leaves-then}
use Rattle.nv_laws.proofs.others.TagEvents.{group-owned, of-tag}

module _ (host_bytes : ℕ) (geometry : Geometry) where
  handed_on-leaves : (lane : ℕ) (tags : List ℕ) (shares : List Share) (command : Command) (o : Owner) (w : World)
      → IsLaidOut host_bytes (length w.lanes) geometry → IsConsistentOfTags geometry w
      → slice_get geometry.guests command.guest ≡ Some o.given → All (IsPlanned o.given command.entry) shares
      → All (HasTag (IsTakenBy command) w lane) tags → AreDistinct tags
      → Leaves geometry (Some command.guest) w (handed_on geometry.mediator lane tags shares command o w)
  unfolding handed_on
  handed_on-leaves lane [] shares command o w laid fine given planned have apart = leaves-nothing geometry (Some command.guest) w
  handed_on-leaves lane (tag ∷ tags) [] command o w laid fine given planned have apart = leaves-nothing geometry (Some command.guest) w
  handed_on-leaves lane (tag ∷ tags) (share ∷ shares) command o w laid fine given planned have apart =
      let first = All-head (HasTag (IsTakenBy command) w lane) tag tags have in
      let is = All-head (IsPlanned o.given command.entry) share shares planned in
      let found : tag_of w lane tag ≡ Some (Taken command first.has.reads) = first.is ∙ ap (λ x. Some x) first.has.is in
      let a = is-at geometry w lane tag (Taken command first.has.reads) fine found in
      let z : World = carried_out geometry.mediator lane tag command share o w in
      let c = carried-is w geometry.mediator lane tag command share o a.l a.d a.at_lane a.at_device in
      let now : IsConsistentOfTags geometry z = carried_out-consistent host_bytes geometry w lane tag command first.has.reads share o laid fine found given is in
      let many : length z.lanes ≡ length w.lanes = ap (λ ls. length ls) c.lanes ∙ length-set w.lanes lane (tag_changed tag c.now a.l) in
      leaves-then geometry (Some command.guest) w z (handed_on geometry.mediator lane tags shares command o z) many
      (carried-leaves host_bytes geometry w laid fine lane tag command first.has.reads share o found is)
      (handed_on-leaves lane tags shares command o z (subst (λ n. IsLaidOut host_bytes n geometry) (sym many) laid) now given
      (All-tail (IsPlanned o.given command.entry) share shares planned)
      (have-other (IsTakenBy command) w z lane tag tags (λ other differ. share-other w geometry.mediator lane tag other command share o differ) apart.0
      (All-tail (HasTag (IsTakenBy command) w lane) tag tags have)) apart.1)

  module _ (w : World) (laid : IsLaidOut host_bytes (length w.lanes) geometry) (fine : IsConsistentOfTags geometry w) (are : HasGroups geometry w.lanes) where
    shares-leave : (lane tag : ℕ) (command : Command) (reads : List ReadDone) (o : Owner) (plan : Plan) → tag_of w lane tag ≡ Some (Taken command reads)
        → command.leader ≡ tag → slice_get geometry.guests command.guest ≡ Some o.given → IsWhole o.given command.entry plan
        → Leaves geometry (Some command.guest) w
        (handed_on geometry.mediator lane (group w lane tag) (shares_of o.given.namespace command.entry plan) command o w)
    shares-leave lane tag command reads o plan found leads given whole =
        let a = is-at geometry w lane tag (Taken command reads) fine found in
        handed_on-leaves lane (group w lane tag) (shares_of o.given.namespace command.entry plan) command o w laid fine given
        (shares-planned o.given command.entry plan whole)
        (taken-tags geometry w lane tag a.l command reads a.at_lane (are lane a.l a.at_lane) found leads) (group-distinct w lane tag)

    carry_out-leaves : (plan : Plan) (lane tag : ℕ) (command : Command) (reads : List ReadDone) (o : Owner) → tag_of w lane tag ≡ Some (Taken command reads)
        → command.leader ≡ tag → slice_get geometry.guests command.guest ≡ Some o.given → IsAnswerOr o.given command.entry plan
        → Leaves geometry (Some command.guest) w (carry_out plan geometry.mediator lane (group w lane tag) command o w)
    carry_out-leaves (Answer st) lane tag command reads o found leads given kind =
        at_once-leaves geometry lane (group w lane tag) command st w
        (group-owned host_bytes geometry w laid fine lane tag command (Taken command reads) are found refl leads) (group-distinct w lane tag)
    carry_out-leaves (NoData work) lane tag command reads o found leads given (Plans whole) = shares-leave lane tag command reads o (NoData work) found leads given whole
    carry_out-leaves (Direct work) lane tag command reads o found leads given (Plans whole) = shares-leave lane tag command reads o (Direct work) found leads given whole
    carry_out-leaves (Bounced work) lane tag command reads o found leads given (Plans whole) = shares-leave lane tag command reads o (Bounced work) found leads given whole
    carry_out-leaves (NoData work) lane tag command reads o found leads given (Answers st fails same) = cc
    carry_out-leaves (Direct work) lane tag command reads o found leads given (Answers st fails same) = cc
    carry_out-leaves (Bounced work) lane tag command reads o found leads given (Answers st fails same) = cc

    submit-by : (outcome : Outcome Plan) (lane tag : ℕ) (command : Command) (reads : List ReadDone) (o : Owner) → tag_of w lane tag ≡ Some (Taken command reads)
        → command.leader ≡ tag → slice_get geometry.guests command.guest ≡ Some o.given → plan_over o.given command.entry reads ≡ outcome
        → Leaves geometry (Some command.guest) w (submit_by outcome geometry.mediator lane (group w lane tag) command o w).world
    submit-by (Wanted addr len) lane tag command reads o found leads given over = leaves-nothing geometry (Some command.guest) w
    submit-by (Settled plan) lane tag command reads o found leads given over =
        carry_out-leaves plan lane tag command reads o found leads given (plan_over-is o.given command.entry reads plan over)

    pub submits-leave : (lane tag : ℕ) → Leaves geometry (guest_of_one (tag_of w lane tag)) w (step geometry (event.Submit lane tag) w).world
    unfolding step
    submits-leave lane tag =
        let nothing = leaves-nothing geometry (guest_of_one (tag_of w lane tag)) w in
        let P = Leaves geometry (guest_of_one (tag_of w lane tag)) w in
        taken-walk P w nothing tag (tag_of w lane tag) _ (λ command reads found leads.
        owner-walk P w nothing (owner_of geometry w command.guest) _ (λ o whose.
        device-walk P w nothing (slice_get w.device lane)
        (λ d. submit_by (plan_over o.given command.entry reads) geometry.mediator lane (group w lane tag) command o w) (λ d device.
        of-tag host_bytes geometry w laid fine lane tag (Taken command reads) command.guest _ found refl
        (submit-by (plan_over o.given command.entry reads) lane tag command reads o found leads
        (subst (λ n. slice_get geometry.guests n ≡ Some o.given) (sym (owner_of-number geometry w command.guest o whose))
        (owner_of-is geometry w command.guest o whose).given) refl))))
