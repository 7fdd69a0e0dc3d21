-- Events of tags that are not in the device's hands: reads of a command's lists, giving it up, answering it at once, and posting its
-- completion.
use Rattle.std.proofs.Common.{◌≡◌, ℕ, ◌+◌, ◌%◌, Bool, true, false, cond, ◌&&◌, nat_le, List, [], ◌∷◌, length, slice_get, Option, Some, None}
use Rattle.std.proofs.Common.{refl, sym, ap, ◌∙◌, subst}
use Rattle.std.specs.List.{All}
use Rattle.std.proofs.lemmas.List.Elements.{All-cons, All-head, All-nil, All-tail}
use Rattle.nv_entry.specs.Status.{StatusField}
use Rattle.nv_entry.specs.StatusCode.{done_with}
use Rattle.nv_entry.specs.Submission.{cid_of}
use Rattle.nv_entry.specs.declared.status_code.StatusCode.TheVariants.{Success}
use Rattle.nv_mem.specs.GuestMap.{all_mapped, mapped}
use Rattle.nv_model.specs.Controller.{Posted, is_enabled, post, ran_out}
use Rattle.nv_model.specs.Judge.{Work, is_read}
use Rattle.nv_model.specs.Laws.{IsCompletionInPlace, IsSubmissionInPlace, QueuesInPlace}
use Rattle.nv_model.specs.Limits.{page, part_size}
use Rattle.nv_model.specs.Memory.{image, stored}
use Rattle.nv_model.specs.Transcript.{ReadDone}
use Rattle.nv_model.proofs.QueueOrder.{IsKept-in_place}
use Rattle.nv_model.proofs.QueuesKept.{HaveBehind, post-kept, ran_out-kept}
use Rattle.nv_world_model.specs.declared.event.Event.TheVariants as event
use Rattle.nv_world_model.specs.Area.{bounce_page}
use Rattle.nv_world_model.specs.Geometry.{Geometry, regions_of}
use Rattle.nv_world_model.specs.Plan.{Answer, Bounced, Direct, NoData, Plan}
use Rattle.nv_world_model.specs.Share.{Share}
use Rattle.nv_world_model.specs.Seat.{Owner, owner_of, put_back}
use Rattle.nv_world_model.specs.Step.{deciding, delivered, delivered_all, delivered_by, delivered_from, ended_at_once, ended_status, is_success}
use Rattle.nv_world_model.specs.Step.{kept_block, list_at, listed, post_all, post_by, posted_to, ran_out_of, scattered_to, status_before}
use Rattle.nv_world_model.specs.Step.{statuses_of, step}
use Rattle.nv_world_model.specs.World.{Command, Ended, Flying, Free, Tag, Taken, World, group, tag_in, tag_of, with_controller, with_host, with_tag}
use Rattle.nv_world_model.proofs.Seats.{IsOwner, owner_of-is}
use Rattle.nv_laws_sound.specs.Consistent.{IsConsistentOfTags}
use Rattle.nv_laws_sound.specs.LaidOut.{IsLaidOut}
use Rattle.nv_laws_sound.proofs.Changes.{controller-consistent}
use Rattle.nv_laws_sound.proofs.Folds.{HasTag, group-distinct, have-other, tag_of-other, with_tags-fold}
use Rattle.nv_laws_sound.proofs.GuestEvents.{memory-consistent, put_back-consistent}
use Rattle.nv_laws_sound.proofs.Numbers.{AreDistinct}
use Rattle.nv_laws_sound.proofs.Retags.{is-at, retagged, tag-is}
use Rattle.nv_laws_sound.proofs.Walks.{either, ended-walk, owner-walk, taken-walk}

-- ---- kinds of tags

-- a tag of that command that waits for its plan
pub record IsTakenBy (command : Command) (t : Tag) : Type 0 where
  pub reads : List ReadDone
  pub is : t ≡ Taken command reads

-- a tag whose part has ended
pub record HasEnded (t : Tag) : Type 0 where
  pub command : Command
  pub st : StatusField
  pub share : Option Share
  pub is : t ≡ Ended command st share

module _ (geometry : Geometry) where
  -- ---- a taken command

  -- one more read
  listed-consistent : (addr len lane tag : ℕ) (command : Command) (reads : List ReadDone) (o : Owner) (w : World) → geometry.mediator % page ≡ 0
      → IsConsistentOfTags geometry w → tag_of w lane tag ≡ Some (Taken command reads)
      → IsConsistentOfTags geometry (listed addr len lane tag command reads o w).world
  unfolding listed
  listed-consistent addr len lane tag command reads o w aligned is at =
      let a = is-at geometry w lane tag (Taken command reads) is at in
      retagged geometry lane tag w (Taken command reads) _ aligned is a (λ test. refl) (λ test. refl) (tag-is geometry w lane tag (Taken command reads) is a)

  pub lists-consistent : (w : World) (lane tag addr len : ℕ) → geometry.mediator % page ≡ 0 → IsConsistentOfTags geometry w
      → IsConsistentOfTags geometry (step geometry (event.List lane tag addr len) w).world
  unfolding step
  lists-consistent w lane tag addr len aligned is =
      taken-walk (IsConsistentOfTags geometry) w is tag (tag_of w lane tag) _ (λ command reads at leads.
      owner-walk (IsConsistentOfTags geometry) w is (owner_of geometry w command.guest) (λ o. list_at addr len lane tag command reads o w) (λ o found.
      either (IsConsistentOfTags geometry) w is (all_mapped (regions_of o.given) addr len) _ _
      (λ there. either (IsConsistentOfTags geometry) w is (nat_le 1 len && nat_le len part_size) _ _
      (λ fits. listed-consistent addr len lane tag command reads o w aligned is at) (λ out. is)) (λ out. is)))

  -- a tag ends without a physical command
  ended-consistent : (lane tag : ℕ) (command : Command) (t : Tag) (st : StatusField) (w : World) → geometry.mediator % page ≡ 0
      → IsConsistentOfTags geometry w → tag_of w lane tag ≡ Some t → IsTakenBy command t
      → IsConsistentOfTags geometry (with_tag lane tag (Ended command st None) w)
  ended-consistent lane tag command t st w aligned is at taken =
      let here : tag_of w lane tag ≡ Some (Taken command taken.reads) = at ∙ ap (λ x. Some x) taken.is in
      let a = is-at geometry w lane tag (Taken command taken.reads) is here in
      retagged geometry lane tag w (Taken command taken.reads) (Ended command st None) aligned is a (λ test. refl) (λ test. refl)
      (tag-is geometry w lane tag (Taken command taken.reads) is a)

  -- and so all of a command
  pub ended_at_once-consistent : (lane : ℕ) (tags : List ℕ) (command : Command) (st : StatusField) (w : World) → geometry.mediator % page ≡ 0
      → All (HasTag (IsTakenBy command) w lane) tags → AreDistinct tags → IsConsistentOfTags geometry w
      → IsConsistentOfTags geometry (ended_at_once lane tags command st w)
  ended_at_once-consistent lane [] command st w aligned have apart is = is
  ended_at_once-consistent lane (tag ∷ tags) command st w aligned have apart is =
      let first = All-head (HasTag (IsTakenBy command) w lane) tag tags have in
      let z : World = with_tag lane tag (Ended command st None) w in
      with_tags-fold (IsConsistentOfTags geometry) (IsTakenBy command) lane (Ended command (done_with Success) None)
      (λ v n t holds at taken. ended-consistent lane n command t (done_with Success) v aligned holds at taken) tags z
      (have-other (IsTakenBy command) w z lane tag tags (λ other differ. tag_of-other w lane tag other (Ended command st None) differ) apart.0
      (All-tail (HasTag (IsTakenBy command) w lane) tag tags have)) apart.1
      (ended-consistent lane tag command first.t st w aligned is first.is first.has)

  -- ---- marks

  -- nothing depends on marks or blocks
  pub blocks-consistent : (w : World) (disk : ℕ → ℕ → ℕ) (kept : ℕ → Bool) → IsConsistentOfTags geometry w
      → IsConsistentOfTags geometry (record w { disk = disk; kept = kept })
  blocks-consistent w disk kept is =
      record { sides = is.sides; controllers = is.controllers; lanes = is.lanes; queues = is.queues }

  pub keeps-consistent : (w : World) (block : ℕ) → IsConsistentOfTags geometry w → IsConsistentOfTags geometry (step geometry (event.Keep block) w).world
  unfolding step kept_block
  keeps-consistent w block is =
      either (IsConsistentOfTags geometry) w is (nat_le (block + 1) geometry.disk_blocks) _ _
      (λ there. record { sides = is.sides; controllers = is.controllers; lanes = is.lanes; queues = is.queues }) (λ out. is)

-- ---- statuses

ended-status : (o : Option Tag) (st : StatusField) → ended_status o ≡ Some st → (t : Tag) × ((o ≡ Some t) × HasEnded t)
ended-status None st e = cc
ended-status (Some Free) st e = cc
ended-status (Some (Taken command reads)) st e = cc
ended-status (Some (Flying command share standing)) st e = cc
ended-status (Some (Ended command was share)) st e =
    (Ended command was share, (refl, record { command = command; st = was; share = share; is = refl }))

-- tags that have statuses have ended
pub statuses-ended : (lane : ℕ) (tags : List ℕ) (w : World) (sts : List StatusField) → statuses_of lane tags w ≡ Some sts
    → All (HasTag HasEnded w lane) tags
unfolding statuses_of
statuses-ended lane [] w sts e = All-nil (HasTag HasEnded w lane)
statuses-ended lane (tag ∷ tags) w sts e = by (ended_status (tag_of w lane tag)) (statuses_of lane tags w) refl refl e (λ rest is. statuses-ended lane tags w rest is)
  where
    by : (o : Option StatusField) (rest : Option (List StatusField)) → ended_status (tag_of w lane tag) ≡ o → statuses_of lane tags w ≡ rest
        → status_before o rest ≡ Some sts → ((rest : List StatusField) → statuses_of lane tags w ≡ Some rest → All (HasTag HasEnded w lane) tags)
        → All (HasTag HasEnded w lane) (tag ∷ tags)
    by None rest first others both more = cc
    by (Some st) None first others both more = cc
    by (Some st) (Some rest) first others both more =
        let t = ended-status (tag_of w lane tag) st first in
        All-cons (HasTag HasEnded w lane) tag tags (record { t = t.0; is = t.1.0; has = t.1.1 }) (more rest others)

module _ (host_bytes : ℕ) (geometry : Geometry) where
  -- ---- an ended command

  -- what is delivered changes the host alone
  pub record IsDelivery (w v : World) : Type 0 where
    pub host : ℕ → ℕ
    pub is : v ≡ with_host host w
    pub consistent : IsConsistentOfTags geometry v

  undelivered : (w : World) → IsConsistentOfTags geometry w → IsDelivery w w
  undelivered w is = record { host = w.host; is = refl; consistent = is }

  delivery-by : (b : Bool) (w : World) (o : Owner) (bounce : ℕ) (work : Work) → IsLaidOut host_bytes (length w.lanes) geometry
      → slice_get geometry.guests o.number ≡ Some o.given → IsConsistentOfTags geometry w → IsDelivery w (cond b (scattered_to bounce work o w) w)
  unfolding scattered_to
  delivery-by true w o bounce work laid given is =
      record { host = _; is = refl; consistent = memory-consistent host_bytes geometry w o _ laid given is }
  delivery-by false w o bounce work laid given is = undelivered w is

  plan-delivered : (plan : Plan) (bounce : ℕ) (o : Owner) (w : World) → IsLaidOut host_bytes (length w.lanes) geometry
      → slice_get geometry.guests o.number ≡ Some o.given → IsConsistentOfTags geometry w → IsDelivery w (delivered_by plan bounce o w)
  plan-delivered (Answer answer) bounce o w laid given is = undelivered w is
  plan-delivered (NoData work) bounce o w laid given is = undelivered w is
  plan-delivered (Direct work) bounce o w laid given is = undelivered w is
  plan-delivered (Bounced work) bounce o w laid given is = delivery-by (is_read work.opcode) w o bounce work laid given is

  tag-delivered : (t : Option Tag) (bounce : ℕ) (o : Owner) (w : World) → IsLaidOut host_bytes (length w.lanes) geometry
      → slice_get geometry.guests o.number ≡ Some o.given → IsConsistentOfTags geometry w → IsDelivery w (delivered_from t bounce o w)
  tag-delivered None bounce o w laid given is = undelivered w is
  tag-delivered (Some Free) bounce o w laid given is = undelivered w is
  tag-delivered (Some (Taken command reads)) bounce o w laid given is = undelivered w is
  tag-delivered (Some (Flying command share standing)) bounce o w laid given is = undelivered w is
  tag-delivered (Some (Ended command st None)) bounce o w laid given is = undelivered w is
  tag-delivered (Some (Ended command st (Some share))) bounce o w laid given is = plan-delivered share.plan bounce o w laid given is

  -- tag by tag
  all-delivered : (lane : ℕ) (tags : List ℕ) (o : Owner) (w : World) → IsLaidOut host_bytes (length w.lanes) geometry
      → slice_get geometry.guests o.number ≡ Some o.given → IsConsistentOfTags geometry w
      → IsDelivery w (delivered_all geometry.mediator lane tags o w)
  unfolding delivered_all
  all-delivered lane [] o w laid given is = undelivered w is
  all-delivered lane (tag ∷ tags) o w laid given is =
      let v : World = delivered_from (tag_of w lane tag) (bounce_page geometry.mediator lane tag) o w in
      let first = tag-delivered (tag_of w lane tag) (bounce_page geometry.mediator lane tag) o w laid given is in
      let same : length v.lanes ≡ length w.lanes = ap (λ (z : World). length z.lanes) first.is in
      let rest = all-delivered lane tags o v (subst (λ n. IsLaidOut host_bytes n geometry) (sym same) laid) given first.consistent in
      record { host = rest.host; is = rest.is ∙ ap (with_host rest.host) first.is; consistent = rest.consistent }

  pub delivered-consistent : (st : StatusField) (lane : ℕ) (tags : List ℕ) (o : Owner) (w : World) → IsLaidOut host_bytes (length w.lanes) geometry
      → slice_get geometry.guests o.number ≡ Some o.given → IsConsistentOfTags geometry w
      → IsDelivery w (delivered st geometry.mediator lane tags o w)
  delivered-consistent st lane tags o w laid given is = by (is_success st)
    where
      by : (b : Bool) → IsDelivery w (cond b (delivered_all geometry.mediator lane tags o w) w)
      by true = all-delivered lane tags o w laid given is
      by false = undelivered w is

  -- the tag of an ended command becomes free
  freed : (w : World) (lane tag : ℕ) (t : Tag) → geometry.mediator % page ≡ 0
      → IsConsistentOfTags geometry w → tag_of w lane tag ≡ Some t → HasEnded t → IsConsistentOfTags geometry (with_tag lane tag Free w)
  freed w lane tag t aligned is at ended =
      let was : Tag = Ended ended.command ended.st ended.share in
      let a = is-at geometry w lane tag was is (at ∙ ap (λ x. Some x) ended.is) in
      let there = tag-is geometry w lane tag was is a in
      retagged geometry lane tag w was Free aligned is a (λ test. refl) (λ test. refl) there.not_held

  -- ended tags of one world have ended in another with the same lanes
  have-lanes : (P : Tag → Type 0) (w z : World) (lane : ℕ) (tags : List ℕ) → z.lanes ≡ w.lanes → All (HasTag P w lane) tags
      → All (HasTag P z lane) tags
  have-lanes P w z lane [] same have = All-nil (HasTag P z lane)
  have-lanes P w z lane (tag ∷ tags) same have =
      let h = All-head (HasTag P w lane) tag tags have in
      All-cons (HasTag P z lane) tag tags
      (record { t = h.t; is = ap (λ ls. tag_in (slice_get ls lane) tag) same ∙ h.is; has = h.has })
      (have-lanes P w z lane tags same (All-tail (HasTag P w lane) tag tags have))

  posted-consistent : (w v : World) (lane : ℕ) (tags : List ℕ) (o : Owner) (posted : Posted)
      → IsLaidOut host_bytes (length w.lanes) geometry → IsOwner geometry w o → IsDelivery w v
      → All (HasTag HasEnded w lane) tags → AreDistinct tags → QueuesInPlace (mapped (regions_of o.given)) posted.controller
      → IsConsistentOfTags geometry (posted_to posted lane tags o v)
  unfolding posted_to put_back
  posted-consistent w v lane tags o posted laid owns d have apart place =
      let z = with_host d.host w in
      let is : IsConsistentOfTags geometry z = subst (IsConsistentOfTags geometry) d.is d.consistent in
      let memory = stored (image (regions_of o.given) z.host) posted.addr posted.entry in
      let behind : IsConsistentOfTags geometry (put_back o memory posted.controller z) =
      put_back-consistent host_bytes geometry z o memory posted.controller laid owns.given place is in
      subst (λ x. IsConsistentOfTags geometry (posted_to posted lane tags o x)) (sym d.is)
      (with_tags-fold (IsConsistentOfTags geometry) HasEnded lane Free (λ x n t holds at ended. freed x lane n t laid.pages holds at ended) tags
      (put_back o memory posted.controller z) (have-lanes HasEnded w (put_back o memory posted.controller z) lane tags refl have) apart behind)

  run_out-consistent : (w v : World) (queue lane : ℕ) (tags : List ℕ) (o : Owner)
      → IsLaidOut host_bytes (length w.lanes) geometry → IsOwner geometry w o → IsDelivery w v
      → All (HasTag HasEnded w lane) tags → AreDistinct tags → QueuesInPlace (mapped (regions_of o.given)) (ran_out o.controller queue)
      → IsConsistentOfTags geometry (ran_out_of queue lane tags o v)
  unfolding ran_out_of
  run_out-consistent w v queue lane tags o laid owns d have apart place =
      let z = with_host d.host w in
      let is : IsConsistentOfTags geometry z = subst (IsConsistentOfTags geometry) d.is d.consistent in
      let c = ran_out o.controller queue in
      subst (λ x. IsConsistentOfTags geometry (ran_out_of queue lane tags o x)) (sym d.is)
      (with_tags-fold (IsConsistentOfTags geometry) HasEnded lane Free (λ x n t holds at ended. freed x lane n t laid.pages holds at ended) tags
      (with_controller o.number c z) (have-lanes HasEnded w (with_controller o.number c z) lane tags refl have) apart
      (controller-consistent geometry z o.number o.given c owns.given place is))

  post-found : (found : Option Posted) (w : World) (lane : ℕ) (tags : List ℕ) (st : StatusField) (o : Owner)
      → IsLaidOut host_bytes (length w.lanes) geometry → IsOwner geometry w o → IsConsistentOfTags geometry w
      → All (HasTag HasEnded w lane) tags → AreDistinct tags
      → HaveBehind (IsSubmissionInPlace (mapped (regions_of o.given))) (IsCompletionInPlace (mapped (regions_of o.given))) found
      → IsConsistentOfTags geometry (post_by found st geometry.mediator lane tags o w).world
  post-found None w lane tags st o laid owns is have apart place = is
  post-found (Some posted) w lane tags st o laid owns is have apart place =
      posted-consistent w (delivered st geometry.mediator lane tags o w) lane tags o posted laid owns
      (delivered-consistent st lane tags o w laid owns.given is) have apart place

  post_all-consistent : (w : World) (lane : ℕ) (tags : List ℕ) (command : Command) (o : Owner) → IsLaidOut host_bytes (length w.lanes) geometry
      → IsOwner geometry w o → IsConsistentOfTags geometry w → AreDistinct tags → (sts : Option (List StatusField)) → statuses_of lane tags w ≡ sts
      → IsConsistentOfTags geometry (post_all sts command geometry.mediator lane tags o w).world
  post_all-consistent w lane tags command o laid owns is apart None e = is
  post_all-consistent w lane tags command o laid owns is apart (Some sts) e =
      let test = mapped (regions_of o.given) in
      let kept = IsKept-in_place test in
      let place = is.queues o.number o.given o.controller owns.given owns.controller in
      let st = deciding sts in
      let have = statuses-ended lane tags w sts e in
      either (IsConsistentOfTags geometry) w is (is_enabled o.controller) _ _
      (λ enabled. post-found (post o.controller command.queue 0 (cid_of command.entry) st) w lane tags st o laid owns is have apart
      (post-kept test (IsSubmissionInPlace test) (IsCompletionInPlace test) kept o.controller command.queue 0 (cid_of command.entry) st place))
      (λ fell. run_out-consistent w (delivered st geometry.mediator lane tags o w) command.queue lane tags o laid owns
      (delivered-consistent st lane tags o w laid owns.given is) have apart
      (ran_out-kept test (IsSubmissionInPlace test) (IsCompletionInPlace test) kept o.controller command.queue place))

  pub posts-consistent : (w : World) (lane tag : ℕ) → IsLaidOut host_bytes (length w.lanes) geometry → IsConsistentOfTags geometry w
      → IsConsistentOfTags geometry (step geometry (event.Post lane tag) w).world
  unfolding step
  posts-consistent w lane tag laid is =
      ended-walk (IsConsistentOfTags geometry) w is tag (tag_of w lane tag) _ (λ command st share at leads.
      owner-walk (IsConsistentOfTags geometry) w is (owner_of geometry w command.guest)
      (λ o. post_all (statuses_of lane (group w lane tag) w) command geometry.mediator lane (group w lane tag) o w) (λ o found.
      post_all-consistent w lane (group w lane tag) command o laid (owner_of-is geometry w command.guest o found) is (group-distinct w lane tag)
      (statuses_of lane (group w lane tag) w) refl))
