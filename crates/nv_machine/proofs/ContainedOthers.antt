-- What is another guest's is as before a call.
use Rattle.std.proofs.Common.{◌≡◌, ℕ, Bool, true, false, cond, ◌&&◌, ◌==◌, List, [], ◌∷◌, length, nat_le, not, slice_get, slice_index, take, All, Option, Some, None}
use Rattle.std.proofs.Common.{eqb-true, refl, set, sym, ap, ◌∙◌, subst}
use Rattle.std.proofs.lemmas.List.Elements.{All-head, All-tail, All-take, All-weaker}
use Rattle.nv_entry.specs.Completion.{cid_of as completed_cid, status_of}
use Rattle.nv_entry.specs.Status.{StatusField}
use Rattle.nv_entry.specs.StatusCode.{done_with}
use Rattle.nv_entry.specs.Submission.{cid_of}
use Rattle.nv_entry.specs.declared.status_code.StatusCode.TheVariants.{InternalError, Success}
use Rattle.nv_laws_sound.proofs.Lists.{length-set}
use Rattle.nv_laws_sound.proofs.Numbers.{Passes, numbers-pass, numbers_where}
use Rattle.nv_laws_sound.proofs.Takes.{claimed-is}
use Rattle.nv_laws_sound.specs.Groups.{command_of, part_of}
use Rattle.nv_laws_sound.specs.Side.{IsKept, Side}
use Rattle.nv_machine.proofs.AdminWords.{carried_by, no_memory}
use Rattle.nv_machine.specs.Contained.{LeavesOthers, guest_for}
use Rattle.nv_entry.specs.Layout.{number_bytes}
use Rattle.nv_model.specs.declared.reply.Reply.TheVariants as reply
use Rattle.nv_machine.specs.Doing.{Doing, controller_put, for_one, group_at, lane_changed, owner_in, replied, tag_at, tag_put, tail_put, tags_put, told}
use Rattle.nv_machine.specs.Effects.{Effect}
use Rattle.nv_machine.specs.Machine.{acted_in, admin_stores, administered_in, answered_with, call, called, carried_out, carry_out, completed_with, controlled}
use Rattle.nv_machine.specs.Machine.{ended_at, ended_at_once, front_done, handed_on, in_order, is_new, list_at, names_command, post_all, post_by}
use Rattle.nv_machine.specs.Machine.{share_effects, ready_done, reap, statuses_of, submit_by, submitted_on, take_from, take_front, take_tags}
use Rattle.nv_machine.proofs.CallWalks.{either, ended-walk, one-walk, owner-walk, owner_in-named, taken-walk}
use Rattle.nv_machine.proofs.Cases.{tag-lane}
use Rattle.nv_machine.proofs.OwnTags.{AreOthersNone, IsOthersNone, Leaves, controller-leaves, group-guests, group-others, guests-none, leaves-all}
use Rattle.nv_machine.proofs.OwnTags.{LeavesRest, leaves-both, leaves-then, none-kept, tag-leaves, tags-leave, free-none}
use Rattle.nv_machine.proofs.SideWorlds.{begun}
use Rattle.nv_mem.specs.GuestMap.{all_mapped}
use Rattle.nv_model.specs.Admin.{AdminEffect, admin_command, answered, is_queue_full}
use Rattle.nv_model.specs.Controller.{Controller, Deletion, Posted, completion_queue, doorbell, front, is_enabled, is_ready, post, ran_out, reg_read, reg_write, took}
use Rattle.nv_model.specs.Controller.{with_submission}
use Rattle.nv_model.specs.Limits.{part_size}
use Rattle.nv_model.specs.Queue.{next_slot}
use Rattle.nv_model.specs.Transcript.{Outcome, Settled, Wanted}
use Rattle.nv_model.specs.declared.act.Act.{Act}
use Rattle.nv_model.specs.declared.act.Act.TheVariants as act
use Rattle.nv_world_model.specs.Area.{ring_size}
use Rattle.nv_world_model.specs.Contained.{guest_of_one}
use Rattle.nv_world_model.specs.Geometry.{Geometry, regions_of, shape_of}
use Rattle.nv_world_model.specs.Plan.{Answer, Bounced, Direct, NoData, Plan, plan_over}
use Rattle.nv_world_model.specs.Seat.{Owner}
use Rattle.nv_world_model.specs.Share.{Share, shares_of, tags_of_entry}
use Rattle.nv_world_model.specs.ShareArea.{is_no_command}
use Rattle.nv_world_model.specs.Step as step
use Rattle.nv_world_model.specs.View.{guest_of_tag, own_tag}
use Rattle.nv_world_model.specs.World.{Command, Ended, Flying, Free, Lane, Queued, Tag, Taken, changed_at, claimed, is_free, lowest, tag_in}
use Rattle.nv_world_model.proofs.Seats.{slice_get-set, slice_get-set-other}
use Rattle.nv_world_model.specs.declared.event.Event.{Event}
use Rattle.nv_world_model.specs.declared.event.Event.TheVariants as event

-- ---- the controller of a guest alone

module _ (o : Owner) (m : Doing) where
  -- behind what is done of it
  abbrev Own : Doing → Type 0
  Own n = Leaves o.number m.side n.side

  same : Own m
  same = leaves-all (Some o.number) m.side

  controlled-leaves : (c : Option Controller) → Own (controlled c o m).now
  controlled-leaves None = same
  controlled-leaves (Some c) = controller-leaves o.number c m

  register-leaves : (value : Option ℕ) → Own (for_one value m (λ value. replied (reply.Bytes (number_bytes 4 value)) m)).now
  register-leaves None = same
  register-leaves (Some value) = same

  pub acted-leaves : (a : Act) (fetched : List ℕ) → Own (acted_in a fetched o m).now
  acted-leaves (act.Store addr bytes) fetched = either Own m same (all_mapped (regions_of o.given) addr (length bytes)) _ _ (λ fits. same) (λ no. same)
  acted-leaves (act.Load addr len) fetched = either Own m same (all_mapped (regions_of o.given) addr len) _ _ (λ fits. same) (λ no. same)
  acted-leaves (act.RegRead offset) fetched = register-leaves (reg_read o.controller offset)
  acted-leaves (act.RegWrite offset value) fetched = controlled-leaves (reg_write (shape_of o.given).mapped o.controller offset value)
  acted-leaves (act.Doorbell offset value) fetched = controlled-leaves (doorbell o.controller offset value)

  completed-leaves : (p : Option Posted) (effects : List Effect) → Own (completed_with p effects o m).now
  completed-leaves None effects = same
  completed-leaves (Some p) effects = controller-leaves o.number p.controller m

  answered-leaves : (answer : Option (ℕ × StatusField)) (cid : ℕ) (c : Controller) (effects : List Effect) → Own (answered_with answer cid c effects o m).now
  answered-leaves None cid c effects = controller-leaves o.number c m
  answered-leaves (Some answer) cid c effects = completed-leaves (post c 0 answer.0 cid answer.1) effects

  carried-leaves : (done : AdminEffect) (cid : ℕ) (effects : List Effect) → Own (carried_by done cid effects o m).now
  carried-leaves done cid effects = answered-leaves done.answer cid done.controller effects

  front-leaves : (found : Option ℕ) (entry : List ℕ) → Own (front_done found entry o m).now
  front-leaves None entry = same
  front-leaves (Some addr) entry =
      either Own m same (is_queue_full (completion_queue o.controller 0)) _ _ (λ full. same) (λ room.
      carried-leaves (admin_command (shape_of o.given).mapped (shape_of o.given).blocks entry (took o.controller 0) no_memory) (cid_of entry) (admin_stores entry o.given))

  ready-leaves : (waiting : Option Deletion) (entry : List ℕ) → Own (ready_done waiting entry o m).now
  ready-leaves None entry = front-leaves (front o.controller 0) entry
  ready-leaves (Some d) entry =
      either Own m same (not (slice_index o.controller.taken d.queue == 0)) _ _ (λ waits. same) (λ gone.
      either Own m same (is_queue_full (completion_queue o.controller 0)) _ _ (λ full. same) (λ room.
      carried-leaves (answered 0 (record (with_submission o.controller d.queue None) { deletion = None }) no_memory) d.cid []))

  pub administered-leaves : (entry : List ℕ) → Own (administered_in entry o m).now
  administered-leaves entry = either Own m same (is_ready o.controller) _ _ (λ ready. ready-leaves o.controller.deletion entry) (λ no. same)

  -- ---- Take

  -- a free tag is nobody's
  free-others : (t : Tag) → is_free t ≡ true → IsOthersNone o.number (Some t)
  free-others Free is = free-none o.number
  free-others (Taken command reads) is = cc
  free-others (Flying command share standing) is = cc
  free-others (Ended command st share) is = cc

  claimed-others : (lane : ℕ) (l : Lane) (wanted : ℕ) (tags : List ℕ) → slice_get m.side.lanes lane ≡ Some l → claimed wanted l.tags ≡ Some tags
      → AreOthersNone o.number lane m.side tags
  claimed-others lane l wanted tags at is =
      let c = claimed-is wanted l.tags tags is in
      let Mine : ℕ → Type 0 = λ tag. IsOthersNone o.number (tag_at m.side lane tag) in
      subst (All Mine) (sym c.is)
      (All-take Mine wanted (numbers_where is_free l.tags)
      (All-weaker (Passes is_free l.tags) Mine (λ tag p other apart.
      ap (λ (x : Option Lane). own_tag other (tag_in x tag)) at ∙ ap (own_tag other) p.is ∙ free-others p.x p.passes other apart)
      (numbers_where is_free l.tags) (numbers-pass is_free l.tags)))

  tags-take : (lane queue wanted : ℕ) (l : Lane) (entry : List ℕ) → slice_get m.side.lanes lane ≡ Some l → (found : Option (List ℕ))
      → claimed wanted l.tags ≡ found → Own (take_tags found queue lane entry o m).now
  tags-take lane queue wanted l entry at None is = same
  tags-take lane queue wanted l entry at (Some tags) is =
      let z : Doing = controller_put o.number (took o.controller queue) m in
      let t : Tag = Taken (record { guest = o.number; queue = queue; entry = entry; leader = lowest tags }) [] in
      leaves-then o.number m.side z.side (tags_put lane tags t z).side (controller-leaves o.number (took o.controller queue) m)
      (tags-leave o.number lane tags t z (claimed-others lane l wanted tags at is) (guests-none o.number t refl))

  front-take : (lane queue : ℕ) (l : Lane) (entry : List ℕ) → slice_get m.side.lanes lane ≡ Some l → (found : Option ℕ)
      → Own (take_front found queue lane l entry o m).now
  front-take lane queue l entry at None = same
  front-take lane queue l entry at (Some addr) = tags-take lane queue (tags_of_entry o.given.namespace entry) l entry at _ refl

  pub taken-leaves : (lane queue : ℕ) (l : Lane) (entry : List ℕ) → slice_get m.side.lanes lane ≡ Some l → Own (take_from queue lane l entry o m).now
  taken-leaves lane queue l entry at =
      either Own m same (step.is_io_queue queue) _ _ (λ io. front-take lane queue l entry at (front o.controller queue)) (λ no. same)

-- ---- the tags of a command alone

module _ (lane : ℕ) (command : Command) where
  abbrev number : ℕ
  number = command.guest

  abbrev Left : (m n : Doing) → Type 0
  Left m n = Leaves number m.side n.side

  stays : (m : Doing) → Left m m
  stays m = leaves-all (Some number) m.side

  -- GiveUp, and a verdict that ends a command
  pub at_once-leaves : (tags : List ℕ) (st : StatusField) (m : Doing) → AreOthersNone number lane m.side tags
      → Left m (ended_at_once lane tags command st m)
  at_once-leaves [] st m each = stays m
  at_once-leaves (tag ∷ tags) st m each =
      let Mine : ℕ → Type 0 = λ n. IsOthersNone number (tag_at m.side lane n) in
      let z : Doing = tag_put lane tag (Ended command st None) m in
      let one = tag-leaves number lane tag (Ended command st None) m (All-head Mine tag tags each) (guests-none number (Ended command st None) refl) in
      leaves-then number m.side z.side (tags_put lane tags (Ended command (done_with Success) None) z).side one
      (tags-leave number lane tags (Ended command (done_with Success) None) z (none-kept number lane m.side z.side tags one (All-tail Mine tag tags each))
      (guests-none number (Ended command (done_with Success) None) refl))

  -- Submit
  module _ (mediator : ℕ) (o : Owner) where
    submitted-leaves : (t : Option ℕ) (tag : ℕ) (share : Share) (m : Doing) → IsOthersNone number (tag_at m.side lane tag)
        → Left m (submitted_on t mediator lane tag command share o m)
    submitted-leaves None tag share m none = stays m
    submitted-leaves (Some tail) tag share m none =
        let z : Doing = tail_put lane (next_slot ring_size tail) (told (share_effects share o.given command.entry mediator lane tag tail) m) in
        let t : Tag = Flying command share (Queued tail) in
        leaves-then number m.side z.side (tag_put lane tag t z).side (record {
          controllers = λ other apart. refl;
          tags = λ other at n apart. refl;
          many = length-set m.side.tails lane (next_slot ring_size tail);
        })
        (tag-leaves number lane tag t z none (guests-none number t refl))

    tag-carried : (tag : ℕ) (share : Share) (m : Doing) → IsOthersNone number (tag_at m.side lane tag)
        → Left m (carried_out mediator lane tag command share o m)
    tag-carried tag share m none = by (is_no_command share)
      where
        by : (b : Bool)
            → Left m (cond b (tag_put lane tag (Ended command (done_with Success) (Some share)) m)
            (submitted_on (slice_get m.side.tails lane) mediator lane tag command share o m))
        by true = tag-leaves number lane tag (Ended command (done_with Success) (Some share)) m none (guests-none number (Ended command (done_with Success) (Some share)) refl)
        by false = submitted-leaves (slice_get m.side.tails lane) tag share m none

    handed-leaves : (tags : List ℕ) (shares : List Share) (m : Doing) → AreOthersNone number lane m.side tags
        → Left m (handed_on mediator lane tags shares command o m)
    unfolding handed_on
    handed-leaves [] shares m each = stays m
    handed-leaves (tag ∷ tags) [] m each = stays m
    handed-leaves (tag ∷ tags) (share ∷ shares) m each =
        let Mine : ℕ → Type 0 = λ n. IsOthersNone number (tag_at m.side lane n) in
        let z : Doing = carried_out mediator lane tag command share o m in
        let one = tag-carried tag share m (All-head Mine tag tags each) in
        leaves-then number m.side z.side (handed_on mediator lane tags shares command o z).side one
        (handed-leaves tags shares z (none-kept number lane m.side z.side tags one (All-tail Mine tag tags each)))

    module _ (tags : List ℕ) (m : Doing) (each : AreOthersNone number lane m.side tags) where
      plan-leaves : (plan : Plan) → Left m (carry_out plan mediator lane tags command o m)
      plan-leaves (Answer st) = at_once-leaves tags st m each
      plan-leaves (NoData work) = handed-leaves tags (shares_of o.given.namespace command.entry (NoData work)) m each
      plan-leaves (Direct work) = handed-leaves tags (shares_of o.given.namespace command.entry (Direct work)) m each
      plan-leaves (Bounced work) = handed-leaves tags (shares_of o.given.namespace command.entry (Bounced work)) m each

      pub outcome-leaves : (outcome : Outcome Plan) → Left m (submit_by outcome mediator lane tags command o m).now
      outcome-leaves (Wanted addr len) = stays m
      outcome-leaves (Settled plan) = plan-leaves plan

  -- Post
  module _ (mediator : ℕ) (o : Owner) (same_guest : o.number ≡ number) (tags : List ℕ) (m : Doing) (each : AreOthersNone number lane m.side tags) where
    freed-leaves : (c : Controller) → Left m (tags_put lane tags Free (controller_put o.number c m))
    freed-leaves c =
        let z : Doing = controller_put o.number c m in
        leaves-then number m.side z.side (tags_put lane tags Free z).side
        (subst (λ (n : ℕ). Leaves n m.side z.side) same_guest (controller-leaves o.number c m))
        (tags-leave number lane tags Free z each (free-none number))

    freed-told : (c : Controller) (effects : List Effect) → Left m (tags_put lane tags Free (controller_put o.number c (told effects m)))
    freed-told c effects =
        let z : Doing = controller_put o.number c (told effects m) in
        leaves-then number m.side z.side (tags_put lane tags Free z).side
        (subst (λ (n : ℕ). Leaves n m.side z.side) same_guest (controller-leaves o.number c m))
        (tags-leave number lane tags Free z each (free-none number))

    posted-leaves : (p : Option Posted) (delivered : List Effect) → Left m (post_by p delivered lane tags o m).now
    posted-leaves None delivered = stays m
    posted-leaves (Some p) delivered = freed-told p.controller _

    pub all-leaves : (sts : Option (List StatusField)) → Left m (post_all sts command mediator lane tags o m).now
    all-leaves None = stays m
    all-leaves (Some sts) =
        either (Left m) m (stays m) (is_enabled o.controller) _ _
        (λ enabled. posted-leaves (post o.controller command.queue 0 (cid_of command.entry) (step.deciding sts)) _)
        (λ fell. freed-told (ran_out o.controller command.queue) _)

-- ---- the event

-- a completion that is read ends its tag, where that was handed on
ended-leaves : (t : Option Tag) (st : StatusField) (lane tag : ℕ) (m : Doing) → tag_at m.side lane tag ≡ t
    → LeavesRest (guest_of_one t) m.side (ended_at t st lane tag m).side
ended-leaves None st lane tag m at = leaves-all None m.side
ended-leaves (Some Free) st lane tag m at = leaves-all None m.side
ended-leaves (Some (Taken command reads)) st lane tag m at = leaves-all (Some command.guest) m.side
ended-leaves (Some (Flying command share standing)) st lane tag m at =
    tag-leaves command.guest lane tag (Ended command (step.passed_on st) (Some share)) m
    (subst (IsOthersNone command.guest) (sym at) (guests-none command.guest (Flying command share standing) refl))
    (guests-none command.guest (Ended command (step.passed_on st) (Some share)) refl)
ended-leaves (Some (Ended command before share)) st lane tag m at = leaves-all (Some command.guest) m.side

-- its lane goes on to the next slot
pub read-tags : (lanes : List Lane) (lane : ℕ) (l : Lane) → slice_get lanes lane ≡ Some l → (other tag : ℕ)
    → tag_in (slice_get (set lanes lane (step.completion_read l)) other) tag ≡ tag_in (slice_get lanes other) tag
read-tags lanes lane l at other tag = by (other == lane) refl
  where
    by : (b : Bool) → (other == lane) ≡ b → tag_in (slice_get (set lanes lane (step.completion_read l)) other) tag ≡ tag_in (slice_get lanes other) tag
    by false apart = ap (λ (x : Option Lane). tag_in x tag) (slice_get-set-other lanes lane other (step.completion_read l) apart)
    by true here =
        subst (λ (n : ℕ). tag_in (slice_get (set lanes lane (step.completion_read l)) n) tag ≡ tag_in (slice_get lanes n) tag) (sym (eqb-true other lane here))
        (ap (λ (x : Option Lane). tag_in x tag) (slice_get-set lanes lane l (step.completion_read l) at)
        ∙ ap (λ (x : Option Lane). tag_in x tag) (sym at))

pub ended-has : (command : Command) (st : StatusField) (share : Option Share) → command_of (part_of (Ended command st share)) ≡ Some command
ended-has command st None = refl
ended-has command st (Some share) = refl

module _ (geometry : Geometry) (s : Side) (kept : IsKept geometry s) where
  abbrev Fine : Option ℕ → Doing → Type 0
  Fine number m = LeavesRest number s m.side

  group-apart : (lane tag : ℕ) (t : Tag) (command : Command) → tag_at s lane tag ≡ Some t → command_of (part_of t) ≡ Some command → command.leader ≡ tag
      → AreOthersNone command.guest lane s (group_at s lane tag)
  group-apart lane tag t command there has leads =
      let l = tag-lane (slice_get s.lanes lane) tag t there in
      group-others command.guest lane s (group_at s lane tag)
      (group-guests geometry s lane tag l.0 t command l.1.0 (kept.lanes lane l.0 l.1.0).groups l.1.1 has leads)

  -- one of those that are named by a tag
  by-tag : (t : Option Tag) (x : Tag) (m : Doing) → t ≡ Some x → LeavesRest (guest_of_tag x) s m.side → LeavesRest (guest_of_one t) s m.side
  by-tag t x m is leaves = subst (λ (o : Option Tag). LeavesRest (guest_of_one o) s m.side) (sym is) leaves

  pub rest-left : (e : Event) (fetched : List ℕ) → Fine (guest_for e fetched s) (call geometry e fetched s).now
  unfolding called
  rest-left (event.Guest guest a) fetched =
      one-walk (Fine (Some guest)) (begun s) (leaves-all (Some guest) s) (owner_in geometry s guest) _ (λ o whose.
      subst (λ (n : ℕ). Leaves n s (acted_in a fetched o (begun s)).now.side) (sym (owner_in-named geometry s guest o whose).same) (acted-leaves o (begun s) a fetched))
  rest-left (event.Admin guest) fetched =
      one-walk (Fine (Some guest)) (begun s) (leaves-all (Some guest) s) (owner_in geometry s guest) _ (λ o whose.
      subst (λ (n : ℕ). Leaves n s (administered_in fetched o (begun s)).now.side) (sym (owner_in-named geometry s guest o whose).same)
      (administered-leaves o (begun s) fetched))
  rest-left (event.Take guest queue lane) fetched =
      one-walk (Fine (Some guest)) (begun s) (leaves-all (Some guest) s) (owner_in geometry s guest) _ (λ o whose.
      one-walk (Fine (Some guest)) (begun s) (leaves-all (Some guest) s) (slice_get s.lanes lane) (λ l. take_from queue lane l fetched o (begun s)) (λ l at.
      subst (λ (n : ℕ). Leaves n s (take_from queue lane l fetched o (begun s)).now.side) (sym (owner_in-named geometry s guest o whose).same)
      (taken-leaves o (begun s) lane queue l fetched at)))
  rest-left (event.List lane tag addr len) fetched =
      let Mine : Doing → Type 0 = Fine (guest_of_one (tag_at s lane tag)) in
      let stay : Mine (begun s) = leaves-all (guest_of_one (tag_at s lane tag)) s in
      taken-walk Mine (begun s) stay tag (tag_at s lane tag) _ (λ command reads there leads.
      owner-walk Mine (begun s) stay (owner_in geometry s command.guest) (λ o. list_at addr len lane tag fetched command reads o (begun s)) (λ o whose.
      either Mine (begun s) stay (all_mapped (regions_of o.given) addr len) _ _ (λ mapped.
      either Mine (begun s) stay (nat_le 1 len && nat_le len part_size) _ _ (λ fits.
      by-tag (tag_at s lane tag) (Taken command reads) (tag_put lane tag (Taken command _) (begun s)) there
      (tag-leaves command.guest lane tag (Taken command _) (begun s)
      (subst (IsOthersNone command.guest) (sym there) (guests-none command.guest (Taken command reads) refl)) (guests-none command.guest (Taken command _) refl)))
      (λ no. stay)) (λ no. stay)))
  rest-left (event.Submit lane tag) fetched =
      let Mine : Doing → Type 0 = Fine (guest_of_one (tag_at s lane tag)) in
      let stay : Mine (begun s) = leaves-all (guest_of_one (tag_at s lane tag)) s in
      taken-walk Mine (begun s) stay tag (tag_at s lane tag) _ (λ command reads there leads.
      owner-walk Mine (begun s) stay (owner_in geometry s command.guest) (λ o. for_one (slice_get s.tails lane) (begun s) (λ tail.
      submit_by (plan_over o.given command.entry reads) geometry.mediator lane (group_at s lane tag) command o (begun s))) (λ o whose.
      one-walk Mine (begun s) stay (slice_get s.tails lane) _ (λ tail at.
      by-tag (tag_at s lane tag) (Taken command reads)
      (submit_by (plan_over o.given command.entry reads) geometry.mediator lane (group_at s lane tag) command o (begun s)).now there
      (outcome-leaves lane command geometry.mediator o (group_at s lane tag) (begun s) (group-apart lane tag (Taken command reads) command there refl leads)
      (plan_over o.given command.entry reads)))))
  rest-left (event.GiveUp lane tag) fetched =
      let Mine : Doing → Type 0 = Fine (guest_of_one (tag_at s lane tag)) in
      taken-walk Mine (begun s) (leaves-all (guest_of_one (tag_at s lane tag)) s) tag (tag_at s lane tag) _ (λ command reads there leads.
      by-tag (tag_at s lane tag) (Taken command reads) (ended_at_once lane (group_at s lane tag) command (done_with InternalError) (begun s)) there
      (at_once-leaves lane command (group_at s lane tag) (done_with InternalError) (begun s)
      (group-apart lane tag (Taken command reads) command there refl leads)))
  rest-left (event.DevTake lane) fetched = leaves-all _ s
  rest-left (event.DevMove lane slot unit) fetched = leaves-all _ s
  rest-left (event.DevPost lane slot) fetched = leaves-all _ s
  rest-left (event.DevFail lane slot st) fetched = leaves-all _ s
  rest-left (event.Keep block) fetched = leaves-all _ s
  rest-left (event.Reap lane) fetched =
      let cid : ℕ = completed_cid (in_order fetched) in
      let Mine : Doing → Type 0 = Fine (guest_of_one (tag_at s lane cid)) in
      let stay : Mine (begun s) = leaves-all (guest_of_one (tag_at s lane cid)) s in
      one-walk Mine (begun s) stay (slice_get s.lanes lane) (λ l. reap lane l fetched (begun s)) (λ l at.
      either Mine (begun s) stay (is_new l (take 4 fetched)) _ _ (λ new.
      either Mine (begun s) stay (names_command lane l (in_order fetched)) _ _ (λ names. read-leaves lane cid l (status_of (in_order fetched)) at) (λ strays. stay))
      (λ old. stay))
    where
      read-leaves : (lane cid : ℕ) (l : Lane) (st : StatusField) → slice_get s.lanes lane ≡ Some l
          → LeavesRest (guest_of_one (tag_at s lane cid)) s
          (ended_at (slice_get l.tags cid) st lane cid (lane_changed lane step.completion_read (begun s))).side
      read-leaves lane cid l st at =
          let z : Doing = lane_changed lane step.completion_read (begun s) in
          let same : (other tag : ℕ) → tag_at z.side other tag ≡ tag_at s other tag = λ other tag.
          ap (λ (x : Option Lane). tag_in (slice_get (changed_at x lane step.completion_read s.lanes) other) tag) at ∙ read-tags s.lanes lane l at other tag in
          let here : tag_at s lane cid ≡ slice_get l.tags cid = ap (λ (x : Option Lane). tag_in x cid) at in
          leaves-both (guest_of_one (tag_at s lane cid)) s z.side (ended_at (slice_get l.tags cid) st lane cid z).side
          (record { controllers = λ other apart. refl; tags = λ other at n apart. ap (own_tag other) (same at n); many = refl })
          (subst (λ (o : Option Tag). LeavesRest (guest_of_one o) z.side (ended_at (slice_get l.tags cid) st lane cid z).side) (sym here)
          (ended-leaves (slice_get l.tags cid) st lane cid z (same lane cid ∙ here)))
  rest-left (event.Post lane tag) fetched =
      let Mine : Doing → Type 0 = Fine (guest_of_one (tag_at s lane tag)) in
      let stay : Mine (begun s) = leaves-all (guest_of_one (tag_at s lane tag)) s in
      ended-walk Mine (begun s) stay tag (tag_at s lane tag) _ (λ command st share there leads.
      owner-walk Mine (begun s) stay (owner_in geometry s command.guest)
      (λ o. post_all (statuses_of lane (group_at s lane tag) s) command geometry.mediator lane (group_at s lane tag) o (begun s)) (λ o whose.
      by-tag (tag_at s lane tag) (Ended command st share)
      (post_all (statuses_of lane (group_at s lane tag) s) command geometry.mediator lane (group_at s lane tag) o (begun s)).now there
      (all-leaves lane command geometry.mediator o (sym (owner_in-named geometry s command.guest o whose).same) (group_at s lane tag) (begun s)
      (group-apart lane tag (Ended command st share) command there (ended-has command st share) leads)
      (statuses_of lane (group_at s lane tag) s))))

  pub others-left : (e : Event) (fetched : List ℕ) → LeavesOthers (guest_for e fetched s) s (call geometry e fetched s).now.side
  others-left e fetched = let rest = rest-left e fetched in record { controllers = rest.controllers; tags = rest.tags }
