-- Whatever the side is, what a call puts in a tag is its own guest's, or nobody's: each other tag is as it was before.
use Rattle.std.proofs.Common.{◌≡◌, ◌≢◌, ℕ, zero, suc, Bool, true, false, cond, ◌&&◌, ◌==◌, List, [], ◌∷◌, length, Option, Some, None}
use Rattle.std.proofs.Common.{not, nat_le, refl, set, slice_get, slice_index, sym, take, ap, ◌∙◌, subst}
use Rattle.nv_entry.specs.Completion.{cid_of as completed_cid, status_of}
use Rattle.nv_entry.specs.Layout.{number_bytes}
use Rattle.nv_entry.specs.Status.{StatusField}
use Rattle.nv_entry.specs.StatusCode.{done_with}
use Rattle.nv_entry.specs.Submission.{cid_of}
use Rattle.nv_entry.specs.declared.status_code.StatusCode.TheVariants.{InternalError, Success}
use Rattle.nv_laws_sound.specs.Side.{Side}
use Rattle.nv_machine.proofs.AdminWords.{no_memory}
use Rattle.nv_machine.proofs.CallWalks.{either, ended-walk, one-walk, owner-walk, owner_in-named, taken-walk}
use Rattle.nv_machine.proofs.OwnTags.{guests-none}
use Rattle.nv_machine.proofs.SideWorlds.{begun}
use Rattle.nv_machine.specs.Contained.{guest_for}
use Rattle.nv_machine.specs.Doing.{Doing, controller_put, for_one, group_at, lane_changed, owner_in, replied, tag_at, tag_put, tags_put, tail_put, told}
use Rattle.nv_machine.specs.Effects.{Effect}
use Rattle.nv_machine.specs.Machine.{acted_in, admin_stores, administered_in, answered_with, call, called, carried_out, carry_out, completed_with, controlled}
use Rattle.nv_machine.specs.Machine.{ended_at, ended_at_once, front_done, handed_on, in_order, is_new, list_at, names_command, post_all, post_by}
use Rattle.nv_machine.specs.Machine.{ready_done, reap, share_effects, statuses_of, submit_by, submitted_on, take_from, take_front, take_tags}
use Rattle.nv_mem.specs.GuestMap.{all_mapped}
use Rattle.nv_model.specs.Admin.{AdminEffect, admin_command, answered, is_queue_full}
use Rattle.nv_model.specs.Controller.{Controller, Deletion, Posted, completion_queue, doorbell, front, is_enabled, is_ready, post, ran_out, reg_read, reg_write, took}
use Rattle.nv_model.specs.Controller.{with_submission}
use Rattle.nv_model.specs.Limits.{part_size}
use Rattle.nv_model.specs.Queue.{next_slot}
use Rattle.nv_model.specs.Transcript.{Outcome, Settled, Wanted}
use Rattle.nv_model.specs.declared.act.Act.{Act}
use Rattle.nv_model.specs.declared.act.Act.TheVariants as act
use Rattle.nv_model.specs.declared.reply.Reply.TheVariants as reply
use Rattle.nv_world_model.specs.Area.{ring_size}
use Rattle.nv_world_model.specs.Contained.{guest_of_one}
use Rattle.nv_world_model.specs.Geometry.{Geometry, regions_of, shape_of}
use Rattle.nv_world_model.specs.Plan.{Answer, Bounced, Direct, NoData, Plan, plan_over}
use Rattle.nv_world_model.specs.Seat.{Owner}
use Rattle.nv_world_model.specs.Share.{Share, shares_of, tags_of_entry}
use Rattle.nv_world_model.specs.ShareArea.{is_no_command}
use Rattle.nv_world_model.specs.Step.{completion_read, deciding, is_io_queue, passed_on}
use Rattle.nv_world_model.specs.View.{guest_of_tag, own_tag}
use Rattle.nv_world_model.specs.World.{Command, Ended, Flying, Free, Lane, Queued, Tag, Taken, changed_at, claimed, lowest, tag_changed, tag_in}
use Rattle.nv_world_model.specs.declared.event.Event.{Event}
use Rattle.nv_world_model.specs.declared.event.Event.TheVariants as event

-- ---- one tag

-- a tag is as it was, or none of that guest's
pub data Stands (other : ℕ) (was now : Option Tag) : Type 0 where
  AsBefore : now ≡ was → Stands other was now
  NotTheirs : own_tag other now ≡ None → Stands other was now

-- a tag is as it was, or the one that was put
data IsPut (was now : Option Tag) (t : Tag) : Type 0 where
  Stays : now ≡ was → IsPut was now t
  Put : now ≡ Some t → IsPut was now t

put-tags : (ts : List Tag) (tag : ℕ) (t : Tag) (n : ℕ) → IsPut (slice_get ts n) (slice_get (set ts tag t) n) t
put-tags [] tag t n = Stays refl
put-tags (x ∷ ts) zero t zero = Put refl
put-tags (x ∷ ts) zero t (suc n) = Stays refl
put-tags (x ∷ ts) (suc tag) t zero = Stays refl
put-tags (x ∷ ts) (suc tag) t (suc n) = put-tags ts tag t n

put-lanes : (ls : List Lane) (lane tag : ℕ) (t : Tag) (at n : ℕ)
    → IsPut (tag_in (slice_get ls at) n) (tag_in (slice_get (changed_at (slice_get ls lane) lane (tag_changed tag t) ls) at) n) t
put-lanes [] lane tag t at n = Stays refl
put-lanes (l ∷ ls) zero tag t zero n = put-tags l.tags tag t n
put-lanes (l ∷ ls) zero tag t (suc at) n = Stays refl
put-lanes (l ∷ ls) (suc lane) tag t zero n = by (slice_get ls lane)
  where
    by : (o : Option Lane) → IsPut (slice_get l.tags n) (tag_in (slice_get (changed_at o (suc lane) (tag_changed tag t) (l ∷ ls)) zero) n) t
    by None = Stays refl
    by (Some k) = Stays refl
put-lanes (l ∷ ls) (suc lane) tag t (suc at) n = by (slice_get ls lane) (put-lanes ls lane tag t at n)
  where
    by : (o : Option Lane) → IsPut (tag_in (slice_get ls at) n) (tag_in (slice_get (changed_at o lane (tag_changed tag t) ls) at) n) t
        → IsPut (tag_in (slice_get ls at) n) (tag_in (slice_get (changed_at o (suc lane) (tag_changed tag t) (l ∷ ls)) (suc at)) n) t
    by None is = is
    by (Some k) is = is

-- a completion that is read changes no tag
read-tags : (ls : List Lane) (lane at n : ℕ)
    → tag_in (slice_get (changed_at (slice_get ls lane) lane completion_read ls) at) n ≡ tag_in (slice_get ls at) n
read-tags [] lane at n = refl
read-tags (l ∷ ls) zero zero n = refl
read-tags (l ∷ ls) zero (suc at) n = refl
read-tags (l ∷ ls) (suc lane) zero n = by (slice_get ls lane)
  where
    by : (o : Option Lane) → tag_in (slice_get (changed_at o (suc lane) completion_read (l ∷ ls)) zero) n ≡ slice_get l.tags n
    by None = refl
    by (Some k) = refl
read-tags (l ∷ ls) (suc lane) (suc at) n = by (slice_get ls lane) (read-tags ls lane at n)
  where
    by : (o : Option Lane) → tag_in (slice_get (changed_at o lane completion_read ls) at) n ≡ tag_in (slice_get ls at) n
        → tag_in (slice_get (changed_at o (suc lane) completion_read (l ∷ ls)) (suc at)) n ≡ tag_in (slice_get ls at) n
    by None is = is
    by (Some k) is = is

-- ---- a call that is for a guest, or for none

module _ (number : Option ℕ) (s : Side) where
  abbrev pub Puts : Doing → Type 0
  Puts m = (other lane tag : ℕ) → number ≢ Some other → Stands other (tag_at s lane tag) (tag_at m.side lane tag)

  nothing-put : Puts (begun s)
  nothing-put other lane tag away = AsBefore refl

  -- a tag is no other's
  abbrev IsApart : Tag → Type 0
  IsApart t = (other : ℕ) → number ≢ Some other → own_tag other (Some t) ≡ None

  own-apart : (guest : ℕ) → number ≡ Some guest → (t : Tag) → guest_of_tag t ≡ Some guest → IsApart t
  own-apart guest is t whose other away = guests-none guest t whose other (λ same. away (is ∙ same))

  free-apart : IsApart Free
  free-apart other away = refl

  tag-puts : (lane tag : ℕ) (t : Tag) → IsApart t → (m : Doing) → Puts m → Puts (tag_put lane tag t m)
  tag-puts lane tag t apart m puts other at n away = by (put-lanes m.side.lanes lane tag t at n)
    where
      by : IsPut (tag_at m.side at n) (tag_at (tag_put lane tag t m).side at n) t → Stands other (tag_at s at n) (tag_at (tag_put lane tag t m).side at n)
      by (Stays same) = subst (Stands other (tag_at s at n)) (sym same) (puts other at n away)
      by (Put is) = NotTheirs (ap (own_tag other) is ∙ apart other away)

  tags-puts : (lane : ℕ) (tags : List ℕ) (t : Tag) → IsApart t → (m : Doing) → Puts m → Puts (tags_put lane tags t m)
  unfolding tags_put
  tags-puts lane [] t apart m puts = puts
  tags-puts lane (tag ∷ tags) t apart m puts = tags-puts lane tags t apart (tag_put lane tag t m) (tag-puts lane tag t apart m puts)

  read-puts : (lane : ℕ) (m : Doing) → Puts m → Puts (lane_changed lane completion_read m)
  read-puts lane m puts other at n away = subst (Stands other (tag_at s at n)) (sym (read-tags m.side.lanes lane at n)) (puts other at n away)

  -- ---- a guest's acts, and Admin

  module _ (o : Owner) (m : Doing) (puts : Puts m) where
    controlled-puts : (c : Option Controller) → Puts (controlled c o m).now
    controlled-puts None = puts
    controlled-puts (Some c) = puts

    register-puts : (value : Option ℕ) → Puts (for_one value m (λ value. replied (reply.Bytes (number_bytes 4 value)) m)).now
    register-puts None = puts
    register-puts (Some value) = puts

    acted-puts : (a : Act) (fetched : List ℕ) → Puts (acted_in a fetched o m).now
    acted-puts (act.Store addr bytes) fetched = either Puts m puts (all_mapped (regions_of o.given) addr (length bytes)) _ _ (λ fits. puts) (λ no. puts)
    acted-puts (act.Load addr len) fetched = either Puts m puts (all_mapped (regions_of o.given) addr len) _ _ (λ fits. puts) (λ no. puts)
    acted-puts (act.RegRead offset) fetched = register-puts (reg_read o.controller offset)
    acted-puts (act.RegWrite offset value) fetched = controlled-puts (reg_write (shape_of o.given).mapped o.controller offset value)
    acted-puts (act.Doorbell offset value) fetched = controlled-puts (doorbell o.controller offset value)

    completed-puts : (p : Option Posted) (effects : List Effect) → Puts (completed_with p effects o m).now
    completed-puts None effects = puts
    completed-puts (Some p) effects = puts

    answered-puts : (answer : Option (ℕ × StatusField)) (cid : ℕ) (c : Controller) (effects : List Effect) → Puts (answered_with answer cid c effects o m).now
    answered-puts None cid c effects = puts
    answered-puts (Some answer) cid c effects = completed-puts (post c 0 answer.0 cid answer.1) effects

    front-puts : (found : Option ℕ) (entry : List ℕ) → Puts (front_done found entry o m).now
    front-puts None entry = puts
    front-puts (Some addr) entry =
        let done : AdminEffect = admin_command (shape_of o.given).mapped (shape_of o.given).blocks entry (took o.controller 0) no_memory in
        either Puts m puts (is_queue_full (completion_queue o.controller 0)) _ _ (λ full. puts) (λ room.
        answered-puts done.answer (cid_of entry) done.controller (admin_stores entry o.given))

    ready-puts : (waiting : Option Deletion) (entry : List ℕ) → Puts (ready_done waiting entry o m).now
    ready-puts None entry = front-puts (front o.controller 0) entry
    ready-puts (Some d) entry =
        let done : AdminEffect = answered 0 (record (with_submission o.controller d.queue None) { deletion = None }) no_memory in
        either Puts m puts (not (slice_index o.controller.taken d.queue == 0)) _ _ (λ waits. puts) (λ gone.
        either Puts m puts (is_queue_full (completion_queue o.controller 0)) _ _ (λ full. puts) (λ room.
        answered-puts done.answer d.cid done.controller []))

    administered-puts : (entry : List ℕ) → Puts (administered_in entry o m).now
    administered-puts entry = either Puts m puts (is_ready o.controller) _ _ (λ ready. ready-puts o.controller.deletion entry) (λ no. puts)

    -- ---- Take

    take-puts : number ≡ Some o.number → (tags : Option (List ℕ)) (queue lane : ℕ) (entry : List ℕ) → Puts (take_tags tags queue lane entry o m).now
    take-puts is None queue lane entry = puts
    take-puts is (Some tags) queue lane entry =
        let t : Tag = Taken (record { guest = o.number; queue = queue; entry = entry; leader = lowest tags }) [] in
        tags-puts lane tags t (own-apart o.number is t refl) (controller_put o.number (took o.controller queue) m) puts

    fronts-puts : number ≡ Some o.number → (found : Option ℕ) (queue lane : ℕ) (l : Lane) (entry : List ℕ) → Puts (take_front found queue lane l entry o m).now
    fronts-puts is None queue lane l entry = puts
    fronts-puts is (Some addr) queue lane l entry = take-puts is (claimed (tags_of_entry o.given.namespace entry) l.tags) queue lane entry

    taken-puts : number ≡ Some o.number → (queue lane : ℕ) (l : Lane) (entry : List ℕ) → Puts (take_from queue lane l entry o m).now
    taken-puts is queue lane l entry =
        either Puts m puts (is_io_queue queue) _ _ (λ io. fronts-puts is (front o.controller queue) queue lane l entry) (λ no. puts)

    -- ---- Post

    posted-puts : (p : Option Posted) (delivered : List Effect) (lane : ℕ) (tags : List ℕ) → Puts (post_by p delivered lane tags o m).now
    posted-puts None delivered lane tags = puts
    posted-puts (Some p) delivered lane tags = tags-puts lane tags Free free-apart (controller_put o.number p.controller (told _ m)) puts

    all-puts : (sts : Option (List StatusField)) (command : Command) (mediator lane : ℕ) (tags : List ℕ)
        → Puts (post_all sts command mediator lane tags o m).now
    all-puts None command mediator lane tags = puts
    all-puts (Some sts) command mediator lane tags =
        either Puts m puts (is_enabled o.controller) _ _
        (λ enabled. posted-puts (post o.controller command.queue 0 (cid_of command.entry) (deciding sts)) _ lane tags)
        (λ fell. tags-puts lane tags Free free-apart (controller_put o.number (ran_out o.controller command.queue) (told _ m)) puts)

  -- ---- Submit and GiveUp

  module _ (lane : ℕ) (command : Command) (is : number ≡ Some command.guest) where
    ended-apart : (st : StatusField) (share : Option Share) → IsApart (Ended command st share)
    ended-apart st share = own-apart command.guest is (Ended command st share) refl

    once-puts : (tags : List ℕ) (st : StatusField) (m : Doing) → Puts m → Puts (ended_at_once lane tags command st m)
    once-puts [] st m puts = puts
    once-puts (tag ∷ tags) st m puts =
        tags-puts lane tags (Ended command (done_with Success) None) (ended-apart (done_with Success) None) (tag_put lane tag (Ended command st None) m)
        (tag-puts lane tag (Ended command st None) (ended-apart st None) m puts)

    module _ (mediator : ℕ) (o : Owner) where
      submitted-puts : (t : Option ℕ) (tag : ℕ) (share : Share) (m : Doing) → Puts m → Puts (submitted_on t mediator lane tag command share o m)
      submitted-puts None tag share m puts = puts
      submitted-puts (Some tail) tag share m puts =
          let t : Tag = Flying command share (Queued tail) in
          tag-puts lane tag t (own-apart command.guest is t refl)
          (tail_put lane (next_slot ring_size tail) (told (share_effects share o.given command.entry mediator lane tag tail) m)) puts

      carried-puts : (tag : ℕ) (share : Share) (m : Doing) → Puts m → Puts (carried_out mediator lane tag command share o m)
      carried-puts tag share m puts = by (is_no_command share)
        where
          by : (b : Bool) → Puts (cond b (tag_put lane tag (Ended command (done_with Success) (Some share)) m)
              (submitted_on (slice_get m.side.tails lane) mediator lane tag command share o m))
          by true = tag-puts lane tag (Ended command (done_with Success) (Some share)) (ended-apart (done_with Success) (Some share)) m puts
          by false = submitted-puts (slice_get m.side.tails lane) tag share m puts

      handed-puts : (tags : List ℕ) (shares : List Share) (m : Doing) → Puts m → Puts (handed_on mediator lane tags shares command o m)
      unfolding handed_on
      handed-puts [] shares m puts = puts
      handed-puts (tag ∷ tags) [] m puts = puts
      handed-puts (tag ∷ tags) (share ∷ shares) m puts = handed-puts tags shares (carried_out mediator lane tag command share o m) (carried-puts tag share m puts)

      plan-puts : (plan : Plan) (tags : List ℕ) (m : Doing) → Puts m → Puts (carry_out plan mediator lane tags command o m)
      plan-puts (Answer st) tags m puts = once-puts tags st m puts
      plan-puts (NoData work) tags m puts = handed-puts tags (shares_of o.given.namespace command.entry (NoData work)) m puts
      plan-puts (Direct work) tags m puts = handed-puts tags (shares_of o.given.namespace command.entry (Direct work)) m puts
      plan-puts (Bounced work) tags m puts = handed-puts tags (shares_of o.given.namespace command.entry (Bounced work)) m puts

      submit-puts : (outcome : Outcome Plan) (tags : List ℕ) (m : Doing) → Puts m → Puts (submit_by outcome mediator lane tags command o m).now
      submit-puts (Wanted addr len) tags m puts = puts
      submit-puts (Settled plan) tags m puts = plan-puts plan tags m puts

  -- ---- Reap

  ending-puts : (t : Option Tag) → number ≡ guest_of_one t → (st : StatusField) (lane tag : ℕ) (m : Doing) → Puts m → Puts (ended_at t st lane tag m)
  ending-puts None is st lane tag m puts = puts
  ending-puts (Some Free) is st lane tag m puts = puts
  ending-puts (Some (Taken command reads)) is st lane tag m puts = puts
  ending-puts (Some (Flying command share standing)) is st lane tag m puts =
      let t : Tag = Ended command (passed_on st) (Some share) in
      tag-puts lane tag t (own-apart command.guest is t refl) m puts
  ending-puts (Some (Ended command before share)) is st lane tag m puts = puts

-- ---- the event

module _ (geometry : Geometry) (s : Side) where
  named : (guest : ℕ) (o : Owner) → owner_in geometry s guest ≡ Some o → Some guest ≡ Some o.number
  named guest o whose = ap (λ (n : ℕ). Some n) (owner_in-named geometry s guest o whose).same

  pub call-puts : (e : Event) (fetched : List ℕ) → Puts (guest_for e fetched s) s (call geometry e fetched s).now
  unfolding called
  call-puts (event.Guest guest a) fetched =
      one-walk (Puts (Some guest) s) (begun s) (nothing-put (Some guest) s) (owner_in geometry s guest) _ (λ o whose.
      acted-puts (Some guest) s o (begun s) (nothing-put (Some guest) s) a fetched)
  call-puts (event.Admin guest) fetched =
      one-walk (Puts (Some guest) s) (begun s) (nothing-put (Some guest) s) (owner_in geometry s guest) _ (λ o whose.
      administered-puts (Some guest) s o (begun s) (nothing-put (Some guest) s) fetched)
  call-puts (event.Take guest queue lane) fetched =
      one-walk (Puts (Some guest) s) (begun s) (nothing-put (Some guest) s) (owner_in geometry s guest) _ (λ o whose.
      one-walk (Puts (Some guest) s) (begun s) (nothing-put (Some guest) s) (slice_get s.lanes lane) (λ l. take_from queue lane l fetched o (begun s)) (λ l at.
      taken-puts (Some guest) s o (begun s) (nothing-put (Some guest) s) (named guest o whose) queue lane l fetched))
  call-puts (event.List lane tag addr len) fetched =
      let whose : Option ℕ = guest_of_one (tag_at s lane tag) in
      let none : Puts whose s (begun s) = nothing-put whose s in
      taken-walk (Puts whose s) (begun s) none tag (tag_at s lane tag) _ (λ command reads there leads.
      owner-walk (Puts whose s) (begun s) none (owner_in geometry s command.guest) (λ o. list_at addr len lane tag fetched command reads o (begun s)) (λ o found.
      either (Puts whose s) (begun s) none (all_mapped (regions_of o.given) addr len) _ _ (λ mapped.
      either (Puts whose s) (begun s) none (nat_le 1 len && nat_le len part_size) _ _ (λ fits.
      tag-puts whose s lane tag (Taken command _) (own-apart whose s command.guest (ap guest_of_one there) (Taken command _) refl) (begun s) none)
      (λ no. none)) (λ no. none)))
  call-puts (event.Submit lane tag) fetched =
      let whose : Option ℕ = guest_of_one (tag_at s lane tag) in
      let none : Puts whose s (begun s) = nothing-put whose s in
      taken-walk (Puts whose s) (begun s) none tag (tag_at s lane tag) _ (λ command reads there leads.
      owner-walk (Puts whose s) (begun s) none (owner_in geometry s command.guest) (λ o. for_one (slice_get s.tails lane) (begun s) (λ tail.
      submit_by (plan_over o.given command.entry reads) geometry.mediator lane (group_at s lane tag) command o (begun s))) (λ o found.
      one-walk (Puts whose s) (begun s) none (slice_get s.tails lane) _ (λ tail at.
      submit-puts whose s lane command (ap guest_of_one there) geometry.mediator o (plan_over o.given command.entry reads) (group_at s lane tag) (begun s) none)))
  call-puts (event.GiveUp lane tag) fetched =
      let whose : Option ℕ = guest_of_one (tag_at s lane tag) in
      let none : Puts whose s (begun s) = nothing-put whose s in
      taken-walk (Puts whose s) (begun s) none tag (tag_at s lane tag) _ (λ command reads there leads.
      once-puts whose s lane command (ap guest_of_one there) (group_at s lane tag) (done_with InternalError) (begun s) none)
  call-puts (event.DevTake lane) fetched = nothing-put None s
  call-puts (event.DevMove lane slot unit) fetched = nothing-put None s
  call-puts (event.DevPost lane slot) fetched = nothing-put None s
  call-puts (event.DevFail lane slot st) fetched = nothing-put None s
  call-puts (event.Keep block) fetched = nothing-put None s
  call-puts (event.Reap lane) fetched =
      let cid : ℕ = completed_cid (in_order fetched) in
      let whose : Option ℕ = guest_of_one (tag_at s lane cid) in
      let none : Puts whose s (begun s) = nothing-put whose s in
      one-walk (Puts whose s) (begun s) none (slice_get s.lanes lane) (λ l. reap lane l fetched (begun s)) (λ l at.
      either (Puts whose s) (begun s) none (is_new l (take 4 fetched)) _ _ (λ new.
      either (Puts whose s) (begun s) none (names_command lane l (in_order fetched)) _ _ (λ names.
      ending-puts whose s (slice_get l.tags cid) (ap (λ (o : Option Lane). guest_of_one (tag_in o cid)) at) (status_of (in_order fetched)) lane cid
      (lane_changed lane completion_read (begun s)) (read-puts whose s lane (begun s) none)) (λ strays. none)) (λ old. none))
  call-puts (event.Post lane tag) fetched =
      let whose : Option ℕ = guest_of_one (tag_at s lane tag) in
      let none : Puts whose s (begun s) = nothing-put whose s in
      ended-walk (Puts whose s) (begun s) none tag (tag_at s lane tag) _ (λ command st share there leads.
      owner-walk (Puts whose s) (begun s) none (owner_in geometry s command.guest)
      (λ o. post_all (statuses_of lane (group_at s lane tag) s) command geometry.mediator lane (group_at s lane tag) o (begun s)) (λ o found.
      all-puts whose s o (begun s) none (statuses_of lane (group_at s lane tag) s) command geometry.mediator lane (group_at s lane tag)))
