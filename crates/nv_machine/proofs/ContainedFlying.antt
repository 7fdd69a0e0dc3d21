-- What was handed on stays in flight until its completion is read.
use Rattle.std.proofs.Common.{◌≡◌, ℕ, Bool, true, false, cond, ◌&&◌, ◌==◌, List, [], ◌∷◌, nat_le, slice_get, take, All, Option, Some, None}
use Rattle.std.proofs.Common.{eqb-true, refl, sym, ap, ◌∙◌, subst}
use Rattle.std.proofs.lemmas.Bool.{eqb-false, ne_eqb}
use Rattle.std.proofs.lemmas.List.Elements.{All-cons, All-head, All-nil, All-tail, All-take, All-weaker}
use Rattle.nv_entry.specs.Completion.{cid_of as completed_cid, status_of}
use Rattle.nv_entry.specs.Status.{StatusField}
use Rattle.nv_entry.specs.StatusCode.{done_with}
use Rattle.nv_entry.specs.Submission.{cid_of}
use Rattle.nv_entry.specs.declared.status_code.StatusCode.TheVariants.{InternalError, Success}
use Rattle.nv_laws_sound.proofs.Numbers.{Passes, numbers-pass, numbers_where}
use Rattle.nv_laws_sound.proofs.Takes.{claimed-is}
use Rattle.nv_laws_sound.specs.Side.{IsKept, Side}
use Rattle.nv_machine.specs.Contained.{LeavesFlying}
use Rattle.nv_machine.specs.Doing.{Doing, controller_put, for_one, for_owner, group_at, lane_changed, owner_in, replied, tag_at, tag_put, tags_put, tail_put, told}
use Rattle.nv_machine.specs.Effects.{Effect}
use Rattle.nv_machine.specs.Machine.{acted_in, administered_in, call, called, carried_out, carry_out, ended_at, ended_at_once, handed_on, in_order, is_flying, is_new, list_at}
use Rattle.nv_machine.specs.Machine.{names_command, post_all, post_by, reap, share_effects, statuses_of, submit_by, submitted_on, take_from, take_front, take_tags}
use Rattle.nv_machine.proofs.CallWalks.{either, ended-walk, one-walk, owner-walk, taken-walk}
use Rattle.nv_machine.proofs.Cases.{tag-lane}
use Rattle.nv_machine.proofs.ContainedOthers.{read-tags}
use Rattle.nv_machine.proofs.ContainedRings.{group-taken}
use Rattle.nv_machine.proofs.ControllerCalls.{acted-alone, administered-alone}
use Rattle.nv_machine.proofs.SideWorlds.{begun}
use Rattle.nv_machine.proofs.SubmitRings.{IsTakenTag, put-other}
use Rattle.nv_mem.specs.GuestMap.{all_mapped}
use Rattle.nv_model.specs.Controller.{Posted, front, is_enabled, post, ran_out, took}
use Rattle.nv_model.specs.Limits.{part_size}
use Rattle.nv_model.specs.Queue.{next_slot}
use Rattle.nv_model.specs.Transcript.{Outcome, ReadDone, Settled, Wanted}
use Rattle.nv_model.specs.declared.reply.Reply.TheVariants as reply
use Rattle.nv_world_model.specs.Area.{ring_size}
use Rattle.nv_world_model.specs.Geometry.{Geometry, regions_of}
use Rattle.nv_world_model.specs.Plan.{Answer, Bounced, Direct, NoData, Plan, plan_over}
use Rattle.nv_world_model.specs.Seat.{Owner}
use Rattle.nv_world_model.specs.Share.{Share, shares_of, tags_of_entry}
use Rattle.nv_world_model.specs.ShareArea.{is_no_command}
use Rattle.nv_world_model.specs.Step as step
use Rattle.nv_world_model.specs.World.{Command, Ended, Flying, Free, Lane, Queued, Tag, Taken, changed_at, claimed, is_free, tag_changed, tag_in}
use Rattle.nv_world_model.proofs.Seats.{slice_get-set-other}
use Rattle.nv_world_model.specs.declared.event.Event.{Event}
use Rattle.nv_world_model.specs.declared.event.Event.TheVariants as event

-- ---- one tag changes

turned : (n k : ℕ) → (n == k) ≡ false → (k == n) ≡ false
turned n k apart = ne_eqb k n (λ same. eqb-false n k apart (sym same))

-- other lanes are as they were
lane-other : (lanes : List Lane) (lane at : ℕ) (change : Lane → Lane) (o : Option Lane) → (at == lane) ≡ false
    → slice_get (changed_at o lane change lanes) at ≡ slice_get lanes at
lane-other lanes lane at change None apart = refl
lane-other lanes lane at change (Some l) apart = slice_get-set-other lanes lane at (change l) apart

-- so are other tags
put-elsewhere : (m : Doing) (lane tag at k : ℕ) (t : Tag) → (lane == at && tag == k) ≡ false → tag_at (tag_put lane tag t m).side at k ≡ tag_at m.side at k
put-elsewhere m lane tag at k t differ = by (lane == at) refl differ
  where
    by : (b : Bool) → (lane == at) ≡ b → (b && tag == k) ≡ false → tag_at (tag_put lane tag t m).side at k ≡ tag_at m.side at k
    by false apart other =
        ap (λ (x : Option Lane). tag_in x k) (lane-other m.side.lanes lane at (tag_changed tag t) (slice_get m.side.lanes lane) (turned lane at apart))
    by true same other =
        subst (λ (n : ℕ). tag_at (tag_put lane tag t m).side n k ≡ tag_at m.side n k) (eqb-true lane at same) (put-other m lane tag k t (turned tag k other))

module _ (s : Side) where
  -- a tag that does not fly
  abbrev Grounded : (lane tag : ℕ) → Type 0
  Grounded lane tag = is_flying (tag_at s lane tag) ≡ false

  -- each tag that flew is as it was
  abbrev Stay : Doing → Type 0
  Stay n = (lane tag : ℕ) → is_flying (tag_at s lane tag) ≡ true → tag_at n.side lane tag ≡ tag_at s lane tag

  stay-lanes : (n : Doing) → n.side.lanes ≡ s.lanes → Stay n
  stay-lanes n same lane tag flies = ap (λ (ls : List Lane). tag_in (slice_get ls lane) tag) same

  stay-put : (lane tag : ℕ) (t : Tag) (n : Doing) → Grounded lane tag → Stay n → Stay (tag_put lane tag t n)
  stay-put lane tag t n grounded stay at k flies = by (lane == at && tag == k) refl
    where
      both : (a b : Bool) → (a && b) ≡ true → (a ≡ true) × (b ≡ true)
      both true true is = (refl, refl)
      both true false is = cc
      both false b is = cc

      by : (b : Bool) → (lane == at && tag == k) ≡ b → tag_at (tag_put lane tag t n).side at k ≡ tag_at s at k
      by false differ = put-elsewhere n lane tag at k t differ ∙ stay at k flies
      by true same =
          let one = both (lane == at) (tag == k) same in
          let here : tag_at s lane tag ≡ tag_at s at k =
          ap (λ (a : ℕ). tag_at s a tag) (eqb-true lane at one.0) ∙ ap (tag_at s at) (eqb-true tag k one.1) in
          let bad : true ≡ false = sym flies ∙ ap is_flying (sym here) ∙ grounded in cc

  stay-tags : (lane : ℕ) (tags : List ℕ) (t : Tag) (n : Doing) → All (Grounded lane) tags → Stay n → Stay (tags_put lane tags t n)
  unfolding tags_put
  stay-tags lane [] t n grounded stay = stay
  stay-tags lane (tag ∷ tags) t n grounded stay =
      stay-tags lane tags t (tag_put lane tag t n) (All-tail (Grounded lane) tag tags grounded)
      (stay-put lane tag t n (All-head (Grounded lane) tag tags grounded) stay)

  stay-begun : Stay (begun s)
  stay-begun lane tag flies = refl

  -- ---- Take

  free-grounded : (t : Tag) → is_free t ≡ true → is_flying (Some t) ≡ false
  free-grounded Free is = refl
  free-grounded (Taken command reads) is = cc
  free-grounded (Flying command share standing) is = cc
  free-grounded (Ended command st share) is = cc

  claimed-grounded : (lane : ℕ) (l : Lane) (wanted : ℕ) (tags : List ℕ) → slice_get s.lanes lane ≡ Some l → claimed wanted l.tags ≡ Some tags
      → All (Grounded lane) tags
  claimed-grounded lane l wanted tags at is =
      let c = claimed-is wanted l.tags tags is in
      subst (All (Grounded lane)) (sym c.is)
      (All-take (Grounded lane) wanted (numbers_where is_free l.tags)
      (All-weaker (Passes is_free l.tags) (Grounded lane)
      (λ tag p. ap (λ (x : Option Lane). is_flying (tag_in x tag)) at ∙ ap is_flying p.is ∙ free-grounded p.x p.passes)
      (numbers_where is_free l.tags) (numbers-pass is_free l.tags)))

  module _ (o : Owner) where
    tags-stay : (found : Option (List ℕ)) (queue lane wanted : ℕ) (l : Lane) (entry : List ℕ) → slice_get s.lanes lane ≡ Some l
        → claimed wanted l.tags ≡ found → Stay (take_tags found queue lane entry o (begun s)).now
    tags-stay None queue lane wanted l entry at is = stay-begun
    tags-stay (Some tags) queue lane wanted l entry at is =
        let z : Doing = controller_put o.number (took o.controller queue) (begun s) in
        stay-tags lane tags _ z (claimed-grounded lane l wanted tags at is) (stay-lanes z refl)

    front-stays : (found : Option ℕ) (queue lane : ℕ) (l : Lane) (entry : List ℕ) → slice_get s.lanes lane ≡ Some l
        → Stay (take_front found queue lane l entry o (begun s)).now
    front-stays None queue lane l entry at = stay-begun
    front-stays (Some addr) queue lane l entry at = tags-stay _ queue lane (tags_of_entry o.given.namespace entry) l entry at refl

  -- ---- Submit and GiveUp

  module _ (lane : ℕ) (command : Command) where
    taken-grounded : (tags : List ℕ) → All (IsTakenTag command lane s) tags → All (Grounded lane) tags
    taken-grounded tags each = All-weaker (IsTakenTag command lane s) (Grounded lane) (λ tag t. ap is_flying t.there) tags each

    at_once-stays : (tags : List ℕ) (st : StatusField) → All (Grounded lane) tags → Stay (ended_at_once lane tags command st (begun s))
    at_once-stays [] st grounded = stay-begun
    at_once-stays (tag ∷ tags) st grounded =
        stay-tags lane tags (Ended command (done_with Success) None) (tag_put lane tag (Ended command st None) (begun s))
        (All-tail (Grounded lane) tag tags grounded)
        (stay-put lane tag (Ended command st None) (begun s) (All-head (Grounded lane) tag tags grounded) stay-begun)

    module _ (mediator : ℕ) (o : Owner) where
      carried-stays : (tag : ℕ) (share : Share) (m : Doing) → Grounded lane tag → Stay m → Stay (carried_out mediator lane tag command share o m)
      carried-stays tag share m grounded stay = by (is_no_command share) (slice_get m.side.tails lane)
        where
          by : (b : Bool) (t : Option ℕ)
              → Stay (cond b (tag_put lane tag (Ended command (done_with Success) (Some share)) m) (submitted_on t mediator lane tag command share o m))
          by true t = stay-put lane tag (Ended command (done_with Success) (Some share)) m grounded stay
          by false None = stay
          by false (Some tail) =
              stay-put lane tag (Flying command share (Queued tail))
              (tail_put lane (next_slot ring_size tail) (told (share_effects share o.given command.entry mediator lane tag tail) m)) grounded stay

      handed-stays : (tags : List ℕ) (shares : List Share) (m : Doing) → All (Grounded lane) tags → Stay m
          → Stay (handed_on mediator lane tags shares command o m)
      unfolding handed_on
      handed-stays [] shares m grounded stay = stay
      handed-stays (tag ∷ tags) [] m grounded stay = stay
      handed-stays (tag ∷ tags) (share ∷ shares) m grounded stay =
          handed-stays tags shares (carried_out mediator lane tag command share o m) (All-tail (Grounded lane) tag tags grounded)
          (carried-stays tag share m (All-head (Grounded lane) tag tags grounded) stay)

      plan-stays : (tags : List ℕ) → All (Grounded lane) tags → (plan : Plan) → Stay (carry_out plan mediator lane tags command o (begun s))
      plan-stays tags grounded (Answer st) = at_once-stays tags st grounded
      plan-stays tags grounded (NoData work) = handed-stays tags (shares_of o.given.namespace command.entry (NoData work)) (begun s) grounded stay-begun
      plan-stays tags grounded (Direct work) = handed-stays tags (shares_of o.given.namespace command.entry (Direct work)) (begun s) grounded stay-begun
      plan-stays tags grounded (Bounced work) = handed-stays tags (shares_of o.given.namespace command.entry (Bounced work)) (begun s) grounded stay-begun

      outcome-stays : (tags : List ℕ) → All (Grounded lane) tags → (outcome : Outcome Plan)
          → Stay (submit_by outcome mediator lane tags command o (begun s)).now
      outcome-stays tags grounded (Wanted addr len) = stay-begun
      outcome-stays tags grounded (Settled plan) = plan-stays tags grounded plan

  -- ---- Post

  -- a tag that has a status has ended
  status-grounded : (t : Option Tag) (st : StatusField) → step.ended_status t ≡ Some st → is_flying t ≡ false
  status-grounded None st is = refl
  status-grounded (Some Free) st is = refl
  status-grounded (Some (Taken command reads)) st is = refl
  status-grounded (Some (Flying command share standing)) st is = cc
  status-grounded (Some (Ended command before share)) st is = refl

  status-both : (o : Option StatusField) (rest : Option (List StatusField)) (sts : List StatusField) → step.status_before o rest ≡ Some sts
      → (st : StatusField) × ((o ≡ Some st) × ((others : List StatusField) × (rest ≡ Some others)))
  status-both None rest sts is = cc
  status-both (Some st) None sts is = cc
  status-both (Some st) (Some others) sts is = (st, (refl, (others, refl)))

  statuses-grounded : (lane : ℕ) (tags : List ℕ) (sts : List StatusField) → statuses_of lane tags s ≡ Some sts → All (Grounded lane) tags
  unfolding statuses_of
  statuses-grounded lane [] sts is = All-nil (Grounded lane)
  statuses-grounded lane (tag ∷ tags) sts is =
      let both = status-both (step.ended_status (tag_at s lane tag)) (statuses_of lane tags s) sts is in
      All-cons (Grounded lane) tag tags (status-grounded (tag_at s lane tag) both.0 both.1.0) (statuses-grounded lane tags both.1.1.0 both.1.1.1)

  module _ (o : Owner) (lane : ℕ) (tags : List ℕ) where
    posted-stays : (p : Option Posted) (es : List Effect) → All (Grounded lane) tags → Stay (post_by p es lane tags o (begun s)).now
    posted-stays None es grounded = stay-begun
    posted-stays (Some p) es grounded =
        let z : Doing = controller_put o.number p.controller (told _ (begun s)) in stay-tags lane tags Free z grounded (stay-lanes z refl)

    all-stay : (sts : Option (List StatusField)) (command : Command) (mediator : ℕ) → statuses_of lane tags s ≡ sts
        → Stay (post_all sts command mediator lane tags o (begun s)).now
    all-stay None command mediator is = stay-begun
    all-stay (Some sts) command mediator is =
        let grounded = statuses-grounded lane tags sts is in
        either Stay (begun s) stay-begun (is_enabled o.controller) _ _
        (λ enabled. posted-stays (post o.controller command.queue 0 (cid_of command.entry) (step.deciding sts)) _ grounded)
        (λ fell.
        (let z : Doing = controller_put o.number (ran_out o.controller command.queue) (told _ (begun s)) in stay-tags lane tags Free z grounded (stay-lanes z refl)))

  -- ---- Reap

  ended-elsewhere : (t : Option Tag) (st : StatusField) (lane tag at k : ℕ) (m : Doing) → (lane == at && tag == k) ≡ false
      → tag_at (ended_at t st lane tag m).side at k ≡ tag_at m.side at k
  ended-elsewhere None st lane tag at k m differ = refl
  ended-elsewhere (Some Free) st lane tag at k m differ = refl
  ended-elsewhere (Some (Taken command reads)) st lane tag at k m differ = refl
  ended-elsewhere (Some (Flying command share standing)) st lane tag at k m differ =
      put-elsewhere m lane tag at k (Ended command (step.passed_on st) (Some share)) differ
  ended-elsewhere (Some (Ended command before share)) st lane tag at k m differ = refl

  read-elsewhere : (lane : ℕ) (l : Lane) (t : Option Tag) (st : StatusField) (tag at k : ℕ) → slice_get s.lanes lane ≡ Some l → (lane == at && tag == k) ≡ false
      → tag_at (ended_at t st lane tag (lane_changed lane step.completion_read (begun s))).side at k ≡ tag_at s at k
  read-elsewhere lane l t st tag at k found differ =
      ended-elsewhere t st lane tag at k (lane_changed lane step.completion_read (begun s)) differ
      ∙ ap (λ (x : Option Lane). tag_in (slice_get (changed_at x lane step.completion_read s.lanes) at) k) found
      ∙ read-tags s.lanes lane l found at k

-- ---- the event

module _ (geometry : Geometry) (s : Side) (kept : IsKept geometry s) where
  group-grounded : (lane tag : ℕ) (command : Command) (reads : List ReadDone) → tag_at s lane tag ≡ Some (Taken command reads) → command.leader ≡ tag
      → All (Grounded s lane) (group_at s lane tag)
  group-grounded lane tag command reads there leads =
      let l = tag-lane (slice_get s.lanes lane) tag (Taken command reads) there in
      taken-grounded s lane command (group_at s lane tag)
      (group-taken geometry s lane tag l.0 command reads l.1.0 (kept.lanes lane l.0 l.1.0).groups there leads)

  abbrev Stays : Doing → Type 0
  Stays = Stay s

  start : Stays (begun s)
  start = stay-begun s

  pub flying-left : (e : Event) (fetched : List ℕ) → LeavesFlying e fetched s (call geometry e fetched s).now.side
  unfolding called
  flying-left (event.Guest guest a) fetched = λ lane tag flies other.
      one-walk Stays (begun s) start (owner_in geometry s guest) (λ o. acted_in a fetched o (begun s))
      (λ o whose. stay-lanes s (acted_in a fetched o (begun s)).now (acted-alone o s a fetched).0) lane tag flies
  flying-left (event.Admin guest) fetched = λ lane tag flies other.
      one-walk Stays (begun s) start (owner_in geometry s guest) (λ o. administered_in fetched o (begun s))
      (λ o whose. stay-lanes s (administered_in fetched o (begun s)).now (administered-alone o s fetched).0) lane tag flies
  flying-left (event.Take guest queue number) fetched = λ lane tag flies other.
      one-walk Stays (begun s) start (owner_in geometry s guest) (λ o. for_one (slice_get s.lanes number) (begun s) (λ l. take_from queue number l fetched o (begun s)))
      (λ o whose.
      one-walk Stays (begun s) start (slice_get s.lanes number) (λ l. take_from queue number l fetched o (begun s)) (λ l at.
      either Stays (begun s) start (step.is_io_queue queue) _ _ (λ io. front-stays s o (front o.controller queue) queue number l fetched at) (λ no. start)))
      lane tag flies
  flying-left (event.List number leader addr len) fetched = λ lane tag flies other.
      taken-walk Stays (begun s) start leader (tag_at s number leader)
      (λ command reads. for_owner (owner_in geometry s command.guest) (begun s) (λ o. list_at addr len number leader fetched command reads o (begun s)))
      (λ command reads there leads.
      owner-walk Stays (begun s) start (owner_in geometry s command.guest) (λ o. list_at addr len number leader fetched command reads o (begun s)) (λ o whose.
      either Stays (begun s) start (all_mapped (regions_of o.given) addr len) _ _ (λ mapped.
      either Stays (begun s) start (nat_le 1 len && nat_le len part_size) _ _
      (λ fits. stay-put s number leader (Taken command _) (begun s) (ap is_flying there) start) (λ no. start)) (λ no. start))) lane tag flies
  flying-left (event.Submit number leader) fetched = λ lane tag flies other.
      taken-walk Stays (begun s) start leader (tag_at s number leader)
      (λ command reads. for_owner (owner_in geometry s command.guest) (begun s) (λ o. for_one (slice_get s.tails number) (begun s) (λ tail.
      submit_by (plan_over o.given command.entry reads) geometry.mediator number (group_at s number leader) command o (begun s))))
      (λ command reads there leads.
      owner-walk Stays (begun s) start (owner_in geometry s command.guest) (λ o. for_one (slice_get s.tails number) (begun s) (λ tail.
      submit_by (plan_over o.given command.entry reads) geometry.mediator number (group_at s number leader) command o (begun s))) (λ o whose.
      one-walk Stays (begun s) start (slice_get s.tails number)
      (λ tail. submit_by (plan_over o.given command.entry reads) geometry.mediator number (group_at s number leader) command o (begun s)) (λ tail at.
      outcome-stays s number command geometry.mediator o (group_at s number leader) (group-grounded number leader command reads there leads)
      (plan_over o.given command.entry reads)))) lane tag flies
  flying-left (event.GiveUp number leader) fetched = λ lane tag flies other.
      taken-walk Stays (begun s) start leader (tag_at s number leader)
      (λ command reads. replied reply.Done (ended_at_once number (group_at s number leader) command (done_with InternalError) (begun s)))
      (λ command reads there leads.
      at_once-stays s number command (group_at s number leader) (done_with InternalError) (group-grounded number leader command reads there leads)) lane tag flies
  flying-left (event.DevTake number) fetched = λ lane tag flies other. refl
  flying-left (event.DevMove number slot unit) fetched = λ lane tag flies other. refl
  flying-left (event.DevPost number slot) fetched = λ lane tag flies other. refl
  flying-left (event.DevFail number slot st) fetched = λ lane tag flies other. refl
  flying-left (event.Keep block) fetched = λ lane tag flies other. refl
  flying-left (event.Reap number) fetched = λ lane tag flies other.
      (let completion : List ℕ = in_order fetched in
      let Same : Doing → Type 0 = λ n. tag_at n.side lane tag ≡ tag_at s lane tag in
      one-walk Same (begun s) refl (slice_get s.lanes number) (λ l. reap number l fetched (begun s)) (λ l at.
      either Same (begun s) refl (is_new l (take 4 fetched)) _ _ (λ new.
      either Same (begun s) refl (names_command number l completion) _ _
      (λ names. read-elsewhere s number l (slice_get l.tags (completed_cid completion)) (status_of completion) (completed_cid completion) lane tag at other)
      (λ strays. refl)) (λ old. refl)))
  flying-left (event.Post number leader) fetched = λ lane tag flies other.
      ended-walk Stays (begun s) start leader (tag_at s number leader)
      (λ command. for_owner (owner_in geometry s command.guest) (begun s)
      (λ o. post_all (statuses_of number (group_at s number leader) s) command geometry.mediator number (group_at s number leader) o (begun s)))
      (λ command st share there leads.
      owner-walk Stays (begun s) start (owner_in geometry s command.guest)
      (λ o. post_all (statuses_of number (group_at s number leader) s) command geometry.mediator number (group_at s number leader) o (begun s)) (λ o whose.
      all-stay s o number (group_at s number leader) (statuses_of number (group_at s number leader) s) command geometry.mediator refl)) lane tag flies
