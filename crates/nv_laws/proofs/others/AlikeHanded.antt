-- A guest's commands that are handed on share by share, in worlds that look alike to it: they look alike behind it.
use Rattle.std.proofs.Common.{◌≡◌, ℕ, Bool, true, false, cond, List, [], ◌∷◌, length, slice_get, Some, refl, sym, ap, ◌∙◌}
use Rattle.std.proofs.Common.{eq-eqb, subst}
use Rattle.std.specs.List.{All, list_any}
use Rattle.std.proofs.lemmas.List.Elements.{All-head, All-tail}
use Rattle.nv_entry.specs.StatusCode.{done_with}
use Rattle.nv_entry.specs.declared.status_code.StatusCode.TheVariants.{Success}
use Rattle.nv_model.specs.Controller.{Controller}
use Rattle.nv_model.specs.Judge.{Clear, Form, Keep, Manage, Transfer, Work, form_is_read, form_of, is_read}
use Rattle.nv_model.specs.Transcript.{Outcome, ReadDone, Settled, Wanted}
use Rattle.nv_world_model.specs.declared.event.Event.TheVariants as event
use Rattle.nv_world_model.specs.Area.{bounce_page}
use Rattle.nv_world_model.specs.Contained.{guest_of_one}
use Rattle.nv_world_model.specs.Geometry.{Geometry, Guest}
use Rattle.nv_world_model.specs.Plan.{Answer, Bounced, Direct, NoData, Plan, plan_over}
use Rattle.nv_world_model.specs.Share.{Share, shares_of}
use Rattle.nv_world_model.specs.ShareArea.{is_no_command, is_no_plan, is_no_work}
use Rattle.nv_world_model.specs.Seat.{Owner, owner_of}
use Rattle.nv_world_model.specs.Step.{carried_out, carry_out, for_one, for_owner, for_taken, handed_on, step, submit_by, submitted_on}
use Rattle.nv_world_model.specs.View.{IsAlike, Span, is_tag_of, units_shown}
use Rattle.nv_world_model.specs.World.{Command, Ended, Tag, Taken, World, group, tag_changed, tag_of, with_tag}
use Rattle.nv_laws_sound.specs.Consistent.{IsConsistentOfTags, IsPlanned}
use Rattle.nv_laws_sound.specs.LaidOut.{IsLaidOut}
use Rattle.nv_laws_sound.proofs.Folds.{HasTag, group-distinct, have-other}
use Rattle.nv_laws_sound.proofs.GroupsKept.{HasGroups}
use Rattle.nv_laws_sound.proofs.Lists.{length-set}
use Rattle.nv_laws_sound.proofs.Numbers.{AreDistinct}
use Rattle.nv_laws_sound.proofs.Planned.{Answers, IsAnswerOr, IsWhole, Plans, plan_over-is, shares-planned}
use Rattle.nv_laws_sound.proofs.Retags.{is-at}
use Rattle.nv_laws_sound.proofs.Stages.{taken-tags}
use Rattle.nv_laws_sound.proofs.SubmitEvents.{carried_out-consistent}
use Rattle.nv_laws_sound.proofs.HandedOn.{carried-is, share-other}
use Rattle.nv_laws_sound.proofs.TagEvents.{IsTakenBy}
use Rattle.nv_laws.specs.Alike.{GoesByItsOwn}
use Rattle.nv_laws.proofs.others.AlikeFolds.{own-pair, tag-alike}
use Rattle.nv_laws.proofs.others.AlikeGuests.{ended-alike}
use Rattle.nv_laws.proofs.others.AlikeReplies.{group-same, rings-same, tag-here}
use Rattle.nv_laws.proofs.others.AlikeSubmits.{submitted-alike}
use Rattle.nv_laws.proofs.others.AlikeWalks.{device-both, device-too, owner-both, taken-both}
use Rattle.nv_laws.proofs.others.Shown.{in_span}

-- ---- a share that is no physical command

-- shows nothing
no-read : (form : Form) (work : Work) → is_no_work form work ≡ true → form_is_read form ≡ false
no-read (Transfer dest) work e = cc
no-read Clear work e = cc
no-read Manage work e = refl
no-read Keep work e = cc

not-chosen : (b : Bool) (spans : List Span) → b ≡ false → cond b spans [] ≡ []
not-chosen true spans e = cc
not-chosen false spans e = refl

no-units : (plan : Plan) (left : List ℕ) (bounce : ℕ) → is_no_plan plan ≡ true → units_shown plan left bounce ≡ []
no-units (Answer st) left bounce e = refl
no-units (NoData work) left bounce e = refl
no-units (Direct work) left bounce e = refl
no-units (Bounced work) left bounce e = not-chosen (is_read work.opcode) _ (no-read (form_of work.opcode) work e)

module _ (host_bytes : ℕ) (geometry : Geometry) (number : ℕ) (guest : Guest) (given : slice_get geometry.guests number ≡ Some guest) where
  abbrev Alike : World → World → Type 0
  Alike v u = IsAlike number guest geometry v u

  abbrev owner_as : Controller → Owner
  owner_as c = record { number = number; given = guest; controller = c }

  -- a share is carried out in its tag
  carried-alike : (w z : World) → IsLaidOut host_bytes (length w.lanes) geometry → IsConsistentOfTags geometry w → Alike w z → (lane tag : ℕ) (command : Command)
      (reads : List ReadDone) (share : Share) (c : Controller) → tag_of w lane tag ≡ Some (Taken command reads) → command.guest ≡ number → IsPlanned guest command.entry share
      → Alike (carried_out geometry.mediator lane tag command share (owner_as c) w) (carried_out geometry.mediator lane tag command share (owner_as c) z)
  carried-alike w z laid fine alike lane tag command reads share c found whose planned =
      let a = is-at geometry w lane tag (Taken command reads) fine found in
      let e = device-too geometry w z number guest given alike lane a.d a.at_device in
      by (is_no_command share) refl
      (λ none.
      tag-alike geometry number guest given w z alike lane tag a.d e.0 now a.at_device e.1
      (own-pair geometry number guest given w z alike lane tag now (record { t = Taken command reads; is = found; has = eq-eqb command.guest number whose }))
      (λ addr. ap (list_any (in_span addr)) (no-units share.plan [] (bounce_page geometry.mediator lane tag) none)))
      (subst (λ o. Alike (submitted_on o geometry.mediator lane tag command share (owner_as c) w)
      (submitted_on (slice_get z.device lane) geometry.mediator lane tag command share (owner_as c) z)) (sym a.at_device)
      (subst (λ o. Alike (submitted_on (Some a.d) geometry.mediator lane tag command share (owner_as c) w)
      (submitted_on o geometry.mediator lane tag command share (owner_as c) z)) (sym e.1)
      (submitted-alike host_bytes geometry w z laid fine number guest given alike lane tag command reads share c a.d e.0 found whose planned a.at_device e.1 e.2)))
    where
      now : Tag
      now = Ended command (done_with Success) (Some share)

      by : (b : Bool) → is_no_command share ≡ b
          → (is_no_command share ≡ true → Alike (with_tag lane tag (Ended command (done_with Success) (Some share)) w) (with_tag lane tag (Ended command (done_with Success) (Some share)) z))
          → Alike (submitted_on (slice_get w.device lane) geometry.mediator lane tag command share (owner_as c) w)
          (submitted_on (slice_get z.device lane) geometry.mediator lane tag command share (owner_as c) z)
          → Alike (cond b (with_tag lane tag (Ended command (done_with Success) (Some share)) w)
          (submitted_on (slice_get w.device lane) geometry.mediator lane tag command share (owner_as c) w))
          (cond b (with_tag lane tag (Ended command (done_with Success) (Some share)) z)
          (submitted_on (slice_get z.device lane) geometry.mediator lane tag command share (owner_as c) z))
      by true is none some = none is
      by false is none some = some

  -- and so are all
  handed-alike : (lane : ℕ) (tags : List ℕ) (shares : List Share) (command : Command) (c : Controller) (w z : World)
      → IsLaidOut host_bytes (length w.lanes) geometry → IsConsistentOfTags geometry w → Alike w z → command.guest ≡ number
      → slice_get geometry.guests command.guest ≡ Some guest → All (IsPlanned guest command.entry) shares
      → All (HasTag (IsTakenBy command) w lane) tags → AreDistinct tags
      → Alike (handed_on geometry.mediator lane tags shares command (owner_as c) w) (handed_on geometry.mediator lane tags shares command (owner_as c) z)
  unfolding handed_on
  handed-alike lane [] shares command c w z laid fine alike whose is_given planned have apart = alike
  handed-alike lane (tag ∷ tags) [] command c w z laid fine alike whose is_given planned have apart = alike
  handed-alike lane (tag ∷ tags) (share ∷ shares) command c w z laid fine alike whose is_given planned have apart =
      let first = All-head (HasTag (IsTakenBy command) w lane) tag tags have in
      let is = All-head (IsPlanned guest command.entry) share shares planned in
      let found : tag_of w lane tag ≡ Some (Taken command first.has.reads) = first.is ∙ ap (λ x. Some x) first.has.is in
      let a = is-at geometry w lane tag (Taken command first.has.reads) fine found in
      let v : World = carried_out geometry.mediator lane tag command share (owner_as c) w in
      let u : World = carried_out geometry.mediator lane tag command share (owner_as c) z in
      let k = carried-is w geometry.mediator lane tag command share (owner_as c) a.l a.d a.at_lane a.at_device in
      let now : IsConsistentOfTags geometry v =
      carried_out-consistent host_bytes geometry w lane tag command first.has.reads share (owner_as c) laid fine found is_given is in
      let many : length v.lanes ≡ length w.lanes = ap length k.lanes ∙ length-set w.lanes lane (tag_changed tag k.now a.l) in
      handed-alike lane tags shares command c v u (subst (λ n. IsLaidOut host_bytes n geometry) (sym many) laid) now
      (carried-alike w z laid fine alike lane tag command first.has.reads share c found whose is) whose is_given
      (All-tail (IsPlanned guest command.entry) share shares planned)
      (have-other (IsTakenBy command) w v lane tag tags (λ other differ. share-other w geometry.mediator lane tag other command share (owner_as c) differ) apart.0
      (All-tail (HasTag (IsTakenBy command) w lane) tag tags have)) apart.1

  module _ (w z : World) (laid : IsLaidOut host_bytes (length w.lanes) geometry) (fine : IsConsistentOfTags geometry w) (are : HasGroups geometry w.lanes)
      (alike : Alike w z) (one : GoesByItsOwn number w) (two : GoesByItsOwn number z) where
    shares-alike : (plan : Plan) (lane tag : ℕ) (command : Command) (reads : List ReadDone) (c : Controller) → tag_of w lane tag ≡ Some (Taken command reads)
        → command.guest ≡ number → command.leader ≡ tag → IsWhole guest command.entry plan
        → Alike (handed_on geometry.mediator lane (group w lane tag) (shares_of guest.namespace command.entry plan) command (owner_as c) w)
        (handed_on geometry.mediator lane (group z lane tag) (shares_of guest.namespace command.entry plan) command (owner_as c) z)
    shares-alike plan lane tag command reads c found whose leads whole =
        let a = is-at geometry w lane tag (Taken command reads) fine found in
        let mine : is_tag_of number (tag_of w lane tag) ≡ true = ap (is_tag_of number) found ∙ eq-eqb command.guest number whose in
        subst (λ tags. Alike (handed_on geometry.mediator lane (group w lane tag) (shares_of guest.namespace command.entry plan) command (owner_as c) w)
        (handed_on geometry.mediator lane tags (shares_of guest.namespace command.entry plan) command (owner_as c) z))
        (group-same geometry w z number guest given alike one two lane tag mine)
        (handed-alike lane (group w lane tag) (shares_of guest.namespace command.entry plan) command c w z laid fine alike whose
        (ap (slice_get geometry.guests) whose ∙ given) (shares-planned guest command.entry plan whole)
        (taken-tags geometry w lane tag a.l command reads a.at_lane (are lane a.l a.at_lane) found leads) (group-distinct w lane tag))

    out-alike : (plan : Plan) (lane tag : ℕ) (command : Command) (reads : List ReadDone) (c : Controller) → tag_of w lane tag ≡ Some (Taken command reads)
        → command.guest ≡ number → command.leader ≡ tag → IsAnswerOr guest command.entry plan
        → Alike (carry_out plan geometry.mediator lane (group w lane tag) command (owner_as c) w)
        (carry_out plan geometry.mediator lane (group z lane tag) command (owner_as c) z)
    out-alike (Answer st) lane tag command reads c found whose leads kind =
        ended-alike host_bytes geometry w z laid fine number guest given alike one two lane tag command reads st found whose
    out-alike (NoData work) lane tag command reads c found whose leads (Plans whole) = shares-alike (NoData work) lane tag command reads c found whose leads whole
    out-alike (Direct work) lane tag command reads c found whose leads (Plans whole) = shares-alike (Direct work) lane tag command reads c found whose leads whole
    out-alike (Bounced work) lane tag command reads c found whose leads (Plans whole) = shares-alike (Bounced work) lane tag command reads c found whose leads whole
    out-alike (NoData work) lane tag command reads c found whose leads (Answers st fails same) = cc
    out-alike (Direct work) lane tag command reads c found whose leads (Answers st fails same) = cc
    out-alike (Bounced work) lane tag command reads c found whose leads (Answers st fails same) = cc

    submit-alike : (outcome : Outcome Plan) (lane tag : ℕ) (command : Command) (reads : List ReadDone) (c : Controller)
        → tag_of w lane tag ≡ Some (Taken command reads) → command.guest ≡ number → command.leader ≡ tag → plan_over guest command.entry reads ≡ outcome
        → Alike (submit_by outcome geometry.mediator lane (group w lane tag) command (owner_as c) w).world
        (submit_by outcome geometry.mediator lane (group z lane tag) command (owner_as c) z).world
    submit-alike (Wanted addr len) lane tag command reads c found whose leads over = alike
    submit-alike (Settled plan) lane tag command reads c found whose leads over =
        out-alike plan lane tag command reads c found whose leads (plan_over-is guest command.entry reads plan over)

    pub submits-alike : (lane tag : ℕ) → guest_of_one (tag_of w lane tag) ≡ Some number
        → Alike (step geometry (event.Submit lane tag) w).world (step geometry (event.Submit lane tag) z).world
    unfolding step
    submits-alike lane tag mine =
        let by_owner = λ (v : World) (command : Command) (reads : List ReadDone) (o : Owner).
        for_one (slice_get v.device lane) v (λ d. submit_by (plan_over o.given command.entry reads) geometry.mediator lane (group v lane tag) command o v) in
        let more = λ (v : World) (command : Command) (reads : List ReadDone). for_owner (owner_of geometry v command.guest) v (by_owner v command reads) in
        subst (λ t. Alike (for_taken tag (tag_of w lane tag) w (more w)).world (for_taken tag t z (more z)).world) (tag-here geometry w z number guest given alike lane tag mine)
        (taken-both Alike w z alike number tag (tag_of w lane tag) mine (more w) (more z) (λ command reads here whose leads.
        owner-both geometry w z number guest given alike Alike alike command.guest whose (by_owner w command reads) (by_owner z command reads) (λ c one_there two_there.
        device-both Alike w z alike (slice_get w.device lane) (slice_get z.device lane) (rings-same geometry w z number guest given alike lane)
        (λ d. submit_by (plan_over guest command.entry reads) geometry.mediator lane (group w lane tag) command (owner_as c) w)
        (λ e. submit_by (plan_over guest command.entry reads) geometry.mediator lane (group z lane tag) command (owner_as c) z) (λ d e there again rings.
        submit-alike (plan_over guest command.entry reads) lane tag command reads c here whose leads refl))))
