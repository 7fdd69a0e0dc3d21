-- What takes, reads of lists, commands that are given up, and completions leave.
use Rattle.std.proofs.Common.{◌≡◌, ℕ, Bool, true, false, cond, ◌&&◌, nat_le, List, [], ◌∷◌, length, set, slice_get, take, Option, Some}
use Rattle.std.proofs.Common.{None, refl, sym, ap, ◌∙◌, subst}
use Rattle.std.specs.List.{All}
use Rattle.std.proofs.lemmas.Bool.{ne_eqb}
use Rattle.std.proofs.lemmas.List.Elements.{All-weaker}
use Rattle.nv_entry.specs.Status.{StatusField}
use Rattle.nv_entry.specs.StatusCode.{done_with}
use Rattle.nv_entry.specs.Submission.{cid_of}
use Rattle.nv_entry.specs.declared.status_code.StatusCode.TheVariants.{InternalError}
use Rattle.nv_mem.specs.GuestMap.{all_mapped}
use Rattle.nv_model.specs.Controller.{Controller, Posted, front, is_enabled, post, ran_out, took}
use Rattle.nv_model.specs.Judge.{Work, is_read}
use Rattle.nv_model.specs.Limits.{part_size}
use Rattle.nv_mem.specs.Places.{places_of, total_len}
use Rattle.nv_model.specs.Memory.{bytes_from, image, put_image, scattered, stored}
use Rattle.nv_model.specs.Transcript.{ReadDone}
use Rattle.nv_model.proofs.PutImages.{put_image-own, put_image-twice}
use Rattle.nv_world_model.specs.declared.event.Event.TheVariants as event
use Rattle.nv_world_model.specs.Area.{bounce_page}
use Rattle.nv_world_model.specs.Contained.{guest_of_one}
use Rattle.nv_world_model.specs.Geometry.{Geometry, regions_of}
use Rattle.nv_world_model.specs.Plan.{Answer, Bounced, Direct, NoData, Plan}
use Rattle.nv_world_model.specs.Share.{Share, tags_of_entry}
use Rattle.nv_world_model.specs.Seat.{Owner, owner_of, put_back}
use Rattle.nv_world_model.specs.Step.{deciding, delivered, delivered_all, delivered_by, delivered_from, entry_at, is_io_queue, is_success, list_at, listed}
use Rattle.nv_world_model.specs.Step.{post_all, post_by, posted_to, ran_out_of, scattered_to, statuses_of, step, take_from, take_front, take_tags, taken_to}
use Rattle.nv_world_model.specs.View.{guest_of_tag}
use Rattle.nv_world_model.specs.World.{Command, Ended, Flying, Free, Lane, Tag, Taken, World, claimed, group, is_free, lowest, tag_in, tag_of}
use Rattle.nv_world_model.specs.World.{with_controller, with_host, with_tags}
use Rattle.nv_world_model.proofs.Seats.{IsOwner, owner_of-is, owner_of-number}
use Rattle.nv_world_model.proofs.Seats.{slice_get-set-other}
use Rattle.nv_laws_sound.specs.Consistent.{IsConsistentOfTags}
use Rattle.nv_laws_sound.specs.Groups.{command_of, part_of}
use Rattle.nv_laws_sound.specs.LaidOut.{IsLaidOut}
use Rattle.nv_laws_sound.proofs.Folds.{HasTag, group-distinct}
use Rattle.nv_laws_sound.proofs.GroupsKept.{HasGroups}
use Rattle.nv_laws_sound.proofs.Numbers.{AreDistinct, Passes, numbers-distinct, numbers-pass, numbers_where, take-all, take-distinct}
use Rattle.nv_laws_sound.proofs.Retags.{is-at}
use Rattle.nv_laws_sound.proofs.Takes.{claimed-is}
use Rattle.nv_laws_sound.proofs.Walks.{either, ended-walk, guest-walk, lane-walk, owner-walk, taken-walk}
use Rattle.nv_laws.specs.Leaving.{Leaves}
use Rattle.nv_laws.proofs.others.Events.{leaves-lanes, leaves-nothing, rest-put_back}
use Rattle.nv_laws.proofs.others.LeavesFolds.{IsNoOthers, at_once-leaves, group-own, have-still, leaves-then, tag-leaves, tags-leave}
use Rattle.nv_laws.proofs.others.Parts.{tag-apart}

-- whether a tag has ended or not, its part is its command's
ended-has : (command : Command) (st : StatusField) (share : Option Share) → command_of (part_of (Ended command st share)) ≡ Some command
ended-has command st None = refl
ended-has command st (Some share) = refl

-- a free tag is nobody's
free-no-others : (geometry : Geometry) (whose : Option ℕ) (t : Tag) → is_free t ≡ true → IsNoOthers geometry whose t
free-no-others geometry whose Free e number differ = refl
free-no-others geometry whose (Taken command reads) e number differ = cc
free-no-others geometry whose (Flying command share standing) e number differ = cc
free-no-others geometry whose (Ended command st share) e number differ = cc

-- the lowest that are free
abbrev take_first : (count : ℕ) → Lane → List ℕ
take_first count l = take count (numbers_where is_free l.tags)

module _ (host_bytes : ℕ) (geometry : Geometry) (w : World) (laid : IsLaidOut host_bytes (length w.lanes) geometry) (fine : IsConsistentOfTags geometry w) where
  -- ---- lists

  listed-leaves : (addr len lane tag : ℕ) (command : Command) (reads : List ReadDone) (o : Owner) → tag_of w lane tag ≡ Some (Taken command reads)
      → Leaves geometry (Some command.guest) w (listed addr len lane tag command reads o w).world
  unfolding listed
  listed-leaves addr len lane tag command reads o found =
      tag-leaves geometry (Some command.guest) w lane tag (Taken command reads) _ found
      (λ number differ. tag-apart (Some command.guest) number (Taken command reads) refl differ)
      (λ number differ. tag-apart (Some command.guest) number (Taken command reads) refl differ)

  -- whose an event of a tag is
  pub of-tag : (lane tag : ℕ) (t : Tag) (number : ℕ) (z : World) → tag_of w lane tag ≡ Some t → guest_of_tag t ≡ Some number
      → Leaves geometry (Some number) w z → Leaves geometry (guest_of_one (tag_of w lane tag)) w z
  of-tag lane tag t number z found whose leaves =
      subst (λ o. Leaves geometry (guest_of_one o) w z) (sym found) (subst (λ o. Leaves geometry o w z) (sym whose) leaves)

  pub lists-leave : (lane tag addr len : ℕ) → Leaves geometry (guest_of_one (tag_of w lane tag)) w (step geometry (event.List lane tag addr len) w).world
  unfolding step
  lists-leave lane tag addr len =
      let nothing = leaves-nothing geometry (guest_of_one (tag_of w lane tag)) w in
      let P = Leaves geometry (guest_of_one (tag_of w lane tag)) w in
      taken-walk P w nothing tag (tag_of w lane tag) _ (λ command reads at leads.
      owner-walk P w nothing (owner_of geometry w command.guest) (λ o. list_at addr len lane tag command reads o w) (λ o found.
      either P w nothing (all_mapped (regions_of o.given) addr len) _ _
      (λ there. either P w nothing (nat_le 1 len && nat_le len part_size) _ _
      (λ fits. of-tag lane tag (Taken command reads) command.guest _ at refl (listed-leaves addr len lane tag command reads o at)) (λ out. nothing)) (λ out. nothing)))

  -- ---- commands that end at once

  pub group-owned : (lane tag : ℕ) (command : Command) (t : Tag) → HasGroups geometry w.lanes → tag_of w lane tag ≡ Some t
      → command_of (part_of t) ≡ Some command → command.leader ≡ tag
      → All (HasTag (IsNoOthers geometry (Some command.guest)) w lane) (group w lane tag)
  group-owned lane tag command t are found has leads =
      let a = is-at geometry w lane tag t fine found in
      group-own geometry w lane tag a.l command t a.at_lane (are lane a.l a.at_lane) found has leads

  pub give_ups-leave : (lane tag : ℕ) → HasGroups geometry w.lanes
      → Leaves geometry (guest_of_one (tag_of w lane tag)) w (step geometry (event.GiveUp lane tag) w).world
  unfolding step
  give_ups-leave lane tag are =
      taken-walk (Leaves geometry (guest_of_one (tag_of w lane tag)) w) w (leaves-nothing geometry (guest_of_one (tag_of w lane tag)) w) tag (tag_of w lane tag) _
      (λ command reads at leads.
      of-tag lane tag (Taken command reads) command.guest _ at refl
      (at_once-leaves geometry lane (group w lane tag) command (done_with InternalError) w
      (group-owned lane tag command (Taken command reads) are at refl leads) (group-distinct w lane tag)))

  -- ---- takes

  free-tags : (whose : Option ℕ) (lane count : ℕ) (l : Lane) → slice_get w.lanes lane ≡ Some l
      → All (HasTag (IsNoOthers geometry whose) w lane) (take_first count l)
  free-tags whose lane count l at =
      take-all (HasTag (IsNoOthers geometry whose) w lane) count (numbers_where is_free l.tags)
      (All-weaker (Passes is_free l.tags) (HasTag (IsNoOthers geometry whose) w lane)
      (λ n p. record { t = p.x; is = ap (λ o. tag_in o n) at ∙ p.is; has = free-no-others geometry whose p.x p.passes })
      (numbers_where is_free l.tags) (numbers-pass is_free l.tags))

  taken_to-leaves : (o : Owner) (addr queue lane count : ℕ) (l : Lane) → IsOwner geometry w o → slice_get w.lanes lane ≡ Some l
      → Leaves geometry (Some o.number) w (taken_to addr queue lane (take_first count l) o w)
  unfolding taken_to
  taken_to-leaves o addr queue lane count l owns at =
      let whose : Option ℕ = Some o.number in
      let ns = take_first count l in
      let z : World = with_controller o.number (took o.controller queue) w in
      let now : Tag = Taken (record { guest = o.number; queue = queue; entry = entry_at addr o w; leader = lowest ns }) [] in
      let moved : Leaves geometry whose w z =
      leaves-lanes geometry whose w z refl refl
      (record {
        bytes = (λ x a b. refl);
        area = (λ n g x a b c. refl);
        blocks = (λ x offset a. refl);
        marks = (λ x a k. k);
        controllers = (λ n differ. sym (slice_get-set-other w.controllers o.number n (took o.controller queue) (ne_eqb n o.number (λ same. differ (ap (λ k. Some k) (sym same))))));
      }) in
      leaves-then geometry whose w z (with_tags lane ns now z) refl moved
      (tags-leave geometry whose lane ns now z (λ number differ. tag-apart whose number now refl differ)
      (have-still (IsNoOthers geometry whose) w z lane ns refl (free-tags whose lane count l at))
      (take-distinct count (numbers_where is_free l.tags) (numbers-distinct is_free l.tags)))

  tags-found : (found : Option (List ℕ)) (o : Owner) (addr queue lane : ℕ) (l : Lane) → IsOwner geometry w o → slice_get w.lanes lane ≡ Some l
      → claimed (tags_of_entry o.given.namespace (entry_at addr o w)) l.tags ≡ found
      → Leaves geometry (Some o.number) w (take_tags found addr queue lane o w).world
  tags-found None o addr queue lane l owns at e = leaves-nothing geometry (Some o.number) w
  tags-found (Some ns) o addr queue lane l owns at e =
      let wanted : ℕ = tags_of_entry o.given.namespace (entry_at addr o w) in
      let c = claimed-is wanted l.tags ns e in
      subst (λ ks. Leaves geometry (Some o.number) w (taken_to addr queue lane ks o w)) (sym c.is) (taken_to-leaves o addr queue lane wanted l owns at)

  front-found : (found : Option ℕ) (o : Owner) (queue lane : ℕ) (l : Lane) → IsOwner geometry w o → slice_get w.lanes lane ≡ Some l
      → Leaves geometry (Some o.number) w (take_front found queue lane l o w).world
  front-found None o queue lane l owns at = leaves-nothing geometry (Some o.number) w
  front-found (Some addr) o queue lane l owns at =
      tags-found (claimed (tags_of_entry o.given.namespace (entry_at addr o w)) l.tags) o addr queue lane l owns at refl

  pub takes-leave : (number queue lane : ℕ) → Leaves geometry (Some number) w (step geometry (event.Take number queue lane) w).world
  unfolding step
  takes-leave number queue lane =
      let nothing = leaves-nothing geometry (Some number) w in
      let P = Leaves geometry (Some number) w in
      guest-walk P w nothing (owner_of geometry w number) _ (λ o found.
      lane-walk P w nothing (slice_get w.lanes lane) (λ l. take_from queue lane l o w) (λ l at.
      either P w nothing (is_io_queue queue) _ _
      (λ io. subst (λ n. Leaves geometry (Some n) w (take_front (front o.controller queue) queue lane l o w).world) (sym (owner_of-number geometry w number o found))
      (front-found (front o.controller queue) o queue lane l (owner_of-is geometry w number o found) at)) (λ out. nothing)))

  -- ---- posts

  -- what is delivered is put back to the owner's memory
  record IsDelivered (o : Owner) (v : World) : Type 0 where
    pub memory : ℕ → ℕ
    pub host : v.host ≡ put_image (regions_of o.given) memory w.host
    pub rest : v ≡ with_host v.host w

  delivered-nothing : (o : Owner) → slice_get geometry.guests o.number ≡ Some o.given → IsDelivered o w
  delivered-nothing o given =
      record {
        memory = image (regions_of o.given) w.host;
        host = sym (put_image-own (regions_of o.given) w.host (laid.given o.number o.given given).sound.apart);
        rest = refl;
      }

  delivered-if : (b : Bool) (o : Owner) (bounce : ℕ) (work : Work) (v : World) → slice_get geometry.guests o.number ≡ Some o.given → IsDelivered o v
      → IsDelivered o (cond b (scattered_to bounce work o v) v)
  unfolding scattered_to
  delivered-if true o bounce work v given d =
      let regions = regions_of o.given in
      let memory = scattered (image regions v.host) (places_of work.pieces) (bytes_from v.host bounce (total_len work.pieces)) in
      record {
        memory = memory;
        host =
            ap (λ h. put_image regions memory h) d.host
            ∙ put_image-twice regions d.memory memory memory w.host (laid.given o.number o.given given).sound.apart (λ addr there. refl);
        rest = ap (λ (x : World). with_host (put_image regions memory v.host) x) d.rest;
      }
  delivered-if false o bounce work v given d = d

  plan-delivered : (plan : Plan) (bounce : ℕ) (o : Owner) (v : World) → slice_get geometry.guests o.number ≡ Some o.given → IsDelivered o v
      → IsDelivered o (delivered_by plan bounce o v)
  plan-delivered (Answer answer) bounce o v given d = d
  plan-delivered (NoData work) bounce o v given d = d
  plan-delivered (Direct work) bounce o v given d = d
  plan-delivered (Bounced work) bounce o v given d = delivered-if (is_read work.opcode) o bounce work v given d

  tag-delivered : (t : Option Tag) (bounce : ℕ) (o : Owner) (v : World) → slice_get geometry.guests o.number ≡ Some o.given → IsDelivered o v
      → IsDelivered o (delivered_from t bounce o v)
  tag-delivered None bounce o v given d = d
  tag-delivered (Some Free) bounce o v given d = d
  tag-delivered (Some (Taken command reads)) bounce o v given d = d
  tag-delivered (Some (Flying command share standing)) bounce o v given d = d
  tag-delivered (Some (Ended command st None)) bounce o v given d = d
  tag-delivered (Some (Ended command st (Some share))) bounce o v given d = plan-delivered share.plan bounce o v given d

  all-delivered : (lane : ℕ) (tags : List ℕ) (o : Owner) (v : World) → slice_get geometry.guests o.number ≡ Some o.given → IsDelivered o v
      → IsDelivered o (delivered_all geometry.mediator lane tags o v)
  unfolding delivered_all
  all-delivered lane [] o v given d = d
  all-delivered lane (tag ∷ tags) o v given d =
      all-delivered lane tags o (delivered_from (tag_of v lane tag) (bounce_page geometry.mediator lane tag) o v) given
      (tag-delivered (tag_of v lane tag) (bounce_page geometry.mediator lane tag) o v given d)

  delivered-is : (st : StatusField) (lane : ℕ) (tags : List ℕ) (o : Owner) → slice_get geometry.guests o.number ≡ Some o.given
      → IsDelivered o (delivered st geometry.mediator lane tags o w)
  delivered-is st lane tags o given = by (is_success st)
    where
      by : (b : Bool) → IsDelivered o (cond b (delivered_all geometry.mediator lane tags o w) w)
      by true = all-delivered lane tags o w given (delivered-nothing o given)
      by false = delivered-nothing o given

  -- memory and controller are put back, and the tags are free
  left-leaves : (z : World) (lane : ℕ) (tags : List ℕ) (o : Owner) (memory : ℕ → ℕ) (c : Controller)
      → All (HasTag (IsNoOthers geometry (Some o.number)) w lane) tags → AreDistinct tags → slice_get geometry.guests o.number ≡ Some o.given
      → z.lanes ≡ w.lanes → z.device ≡ w.device → z.host ≡ put_image (regions_of o.given) memory w.host → z.disk ≡ w.disk → z.kept ≡ w.kept
      → z.controllers ≡ set w.controllers o.number c → Leaves geometry (Some o.number) w (with_tags lane tags Free z)
  left-leaves z lane tags o memory c have apart given lanes device host disk kept controllers =
      leaves-then geometry (Some o.number) w z (with_tags lane tags Free z) (ap length lanes)
      (leaves-lanes geometry (Some o.number) w z lanes device
      (rest-put_back host_bytes geometry w laid fine o memory z given host disk kept
      (λ number differ. ap (λ cs. slice_get cs number) controllers ∙ slice_get-set-other w.controllers o.number number c differ)))
      (tags-leave geometry (Some o.number) lane tags Free z (λ number differ. refl)
      (have-still (IsNoOthers geometry (Some o.number)) w z lane tags lanes have) apart)

  posted-leaves : (v : World) (posted : Posted) (lane : ℕ) (tags : List ℕ) (o : Owner) → IsDelivered o v
      → All (HasTag (IsNoOthers geometry (Some o.number)) w lane) tags → AreDistinct tags → slice_get geometry.guests o.number ≡ Some o.given
      → Leaves geometry (Some o.number) w (posted_to posted lane tags o v)
  unfolding posted_to put_back
  posted-leaves v posted lane tags o d have apart given =
      let regions = regions_of o.given in
      let memory = stored (image regions v.host) posted.addr posted.entry in
      let twice : put_image regions memory v.host ≡ put_image regions memory w.host =
      ap (λ h. put_image regions memory h) d.host ∙ put_image-twice regions d.memory memory memory w.host (laid.given o.number o.given given).sound.apart (λ addr there. refl) in
      left-leaves (put_back o memory posted.controller v) lane tags o memory posted.controller have apart given
      (ap (λ (x : World). x.lanes) d.rest) (ap (λ (x : World). x.device) d.rest) twice (ap (λ (x : World). x.disk) d.rest) (ap (λ (x : World). x.kept) d.rest)
      (ap (λ (x : World). set x.controllers o.number posted.controller) d.rest)

  run_out-leaves : (v : World) (queue lane : ℕ) (tags : List ℕ) (o : Owner) → IsDelivered o v
      → All (HasTag (IsNoOthers geometry (Some o.number)) w lane) tags → AreDistinct tags → slice_get geometry.guests o.number ≡ Some o.given
      → Leaves geometry (Some o.number) w (ran_out_of queue lane tags o v)
  unfolding ran_out_of
  run_out-leaves v queue lane tags o d have apart given =
      left-leaves (with_controller o.number (ran_out o.controller queue) v) lane tags o d.memory (ran_out o.controller queue) have apart given
      (ap (λ (x : World). x.lanes) d.rest) (ap (λ (x : World). x.device) d.rest) d.host (ap (λ (x : World). x.disk) d.rest) (ap (λ (x : World). x.kept) d.rest)
      (ap (λ (x : World). set x.controllers o.number (ran_out o.controller queue)) d.rest)

  post-found : (found : Option Posted) (st : StatusField) (lane : ℕ) (tags : List ℕ) (o : Owner)
      → All (HasTag (IsNoOthers geometry (Some o.number)) w lane) tags → AreDistinct tags → slice_get geometry.guests o.number ≡ Some o.given
      → Leaves geometry (Some o.number) w (post_by found st geometry.mediator lane tags o w).world
  post-found None st lane tags o have apart given = leaves-nothing geometry (Some o.number) w
  post-found (Some posted) st lane tags o have apart given =
      posted-leaves (delivered st geometry.mediator lane tags o w) posted lane tags o (delivered-is st lane tags o given) have apart given

  all-posted : (sts : Option (List StatusField)) (command : Command) (lane : ℕ) (tags : List ℕ) (o : Owner)
      → All (HasTag (IsNoOthers geometry (Some o.number)) w lane) tags → AreDistinct tags → slice_get geometry.guests o.number ≡ Some o.given
      → Leaves geometry (Some o.number) w (post_all sts command geometry.mediator lane tags o w).world
  all-posted None command lane tags o have apart given = leaves-nothing geometry (Some o.number) w
  all-posted (Some sts) command lane tags o have apart given =
      let st = deciding sts in
      either (Leaves geometry (Some o.number) w) w (leaves-nothing geometry (Some o.number) w) (is_enabled o.controller) _ _
      (λ enabled. post-found (post o.controller command.queue 0 (cid_of command.entry) st) st lane tags o have apart given)
      (λ fell. run_out-leaves (delivered st geometry.mediator lane tags o w) command.queue lane tags o (delivered-is st lane tags o given) have apart given)

  pub posts-leave : (lane tag : ℕ) → HasGroups geometry w.lanes
      → Leaves geometry (guest_of_one (tag_of w lane tag)) w (step geometry (event.Post lane tag) w).world
  unfolding step
  posts-leave lane tag are =
      let nothing = leaves-nothing geometry (guest_of_one (tag_of w lane tag)) w in
      let P = Leaves geometry (guest_of_one (tag_of w lane tag)) w in
      ended-walk P w nothing tag (tag_of w lane tag) _ (λ command st share at leads.
      owner-walk P w nothing (owner_of geometry w command.guest)
      (λ o. post_all (statuses_of lane (group w lane tag) w) command geometry.mediator lane (group w lane tag) o w) (λ o found.
      (let whose = owner_of-number geometry w command.guest o found in
      let given = (owner_of-is geometry w command.guest o found).given in
      of-tag lane tag (Ended command st share) o.number _ at (ap (λ n. Some n) whose)
      (all-posted (statuses_of lane (group w lane tag) w) command lane (group w lane tag) o
      (subst (λ n. All (HasTag (IsNoOthers geometry (Some n)) w lane) (group w lane tag)) whose
      (group-owned lane tag command (Ended command st share) are at (ended-has command st share) leads))
      (group-distinct w lane tag) given))))
