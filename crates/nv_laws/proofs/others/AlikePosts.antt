-- A guest's commands that are completed, in worlds that look alike to it: they look alike behind it. What is delivered of a bounced Read is shown to the guest.
use Rattle.std.proofs.Common.{◌≡◌, ℕ, zero, suc, ◌+◌, ◌*◌, ◌<◌, ◌≤◌, inl, inr, Bool, true, false, cond, not, ◌==◌, List, []}
use Rattle.std.proofs.Common.{◌∷◌, filter, length, map}
use Rattle.std.proofs.Common.{set, slice_get, Option, Some, None, arith, refl, sym, ap, ◌∙◌, eq-eqb, subst}
use mathlib.Core.Path.{fun_ext}
use Rattle.std.specs.List.{All, list_any, range_with_len}
use Rattle.std.proofs.lemmas.Bool.{cases_lt}
use Rattle.std.proofs.lemmas.List.Elements.{All-cons, All-head, All-nil, All-tail}
use Rattle.nv_entry.specs.Status.{StatusField}
use Rattle.nv_entry.specs.Submission.{cid_of}
use Rattle.nv_mem.specs.Places.{places_of, total_len}
use Rattle.nv_model.specs.Controller.{Controller, Posted, is_enabled, post, ran_out}
use Rattle.nv_model.specs.Judge.{Work, form_of, is_read}
use Rattle.nv_model.specs.Limits.{block}
use Rattle.nv_model.specs.Memory.{bytes_from, image, put_image, scattered, stored}
use Rattle.nv_ns.specs.Extents.{place_in}
use Rattle.nv_world_model.specs.declared.event.Event.TheVariants as event
use Rattle.nv_world_model.specs.Area.{bounce_page}
use Rattle.nv_world_model.specs.Device.{DeviceLane}
use Rattle.nv_world_model.specs.Contained.{guest_of_one}
use Rattle.nv_world_model.specs.Geometry.{Geometry, Guest, regions_of}
use Rattle.nv_world_model.specs.Plan.{Answer, Bounced, Direct, NoData, Plan}
use Rattle.nv_world_model.specs.Share.{Share}
use Rattle.nv_world_model.specs.Seat.{Owner, owner_of, put_back}
use Rattle.nv_world_model.specs.Step.{deciding, delivered, delivered_all, delivered_by, delivered_from, ended_status, for_ended, for_owner, is_success}
use Rattle.nv_world_model.specs.Step.{post_all}
use Rattle.nv_world_model.specs.Step.{post_by, posted_to, ran_out_of, scattered_to, status_before, statuses_of, step}
use Rattle.nv_world_model.specs.View.{IsAlike, Span, is_tag_of, lane_numbers, result_shown, ring_numbers, units_shown}
use Rattle.nv_world_model.specs.World.{Command, Ended, Flying, Free, Tag, Taken, World, group, tag_of, with_controller, with_host, with_tags}
use Rattle.nv_world_model.proofs.Seats.{slice_get-set}
use Rattle.nv_laws_sound.specs.Consistent.{IsConsistentOfTags, IsPlanned}
use Rattle.nv_laws_sound.specs.LaidOut.{IsLaidOut}
use Rattle.nv_laws_sound.proofs.Folds.{HasTag, group-distinct}
use Rattle.nv_laws_sound.proofs.Lists.{length-set, some-same}
use Rattle.nv_laws_sound.proofs.Numbers.{AreDistinct}
use Rattle.nv_laws_sound.proofs.OwnWork.{own-of}
use Rattle.nv_laws_sound.proofs.PlanSizes.{own_work, planned-kinds}
use Rattle.nv_laws_sound.proofs.Retags.{is-at, tag-is}
use Rattle.nv_laws_sound.proofs.Shows.{bytes_from-between}
use Rattle.nv_laws.specs.Alike.{GoesByItsOwn}
use Rattle.nv_laws.specs.Leaving.{IsBytes}
use Rattle.nv_laws.proofs.others.AlikeFolds.{IsMine, own-pairs, tags-alike}
use Rattle.nv_laws.proofs.others.AlikeGroups.{group-mine}
use Rattle.nv_laws.proofs.others.AlikeGuests.{image-left, put_image-both, sides-both}
use Rattle.nv_laws.proofs.others.AlikeLanes.{one-in, own-same}
use Rattle.nv_laws.proofs.others.AlikeReplies.{group-same, own, statuses-same, tag-here}
use Rattle.nv_laws.proofs.others.AlikeWalks.{either-both, ended-both, owner-both, tag-too}
use Rattle.nv_laws.proofs.others.Behind.{alike-lanes, guests-shared, lanes-shared, memory-behind, rings-shared, shared-of}
use Rattle.nv_laws.proofs.others.LeavesFolds.{have-still}
use Rattle.nv_laws.proofs.others.Shown.{in_span, units-few}
use Rattle.nv_laws.proofs.others.ShownTags.{any-behind, any-front}

-- ---- units

-- where no unit is left, each byte of a row of blocks is that of some unit
units-cover : (addr bounce n from : ℕ) → bounce + block * from ≤ addr → addr < bounce + block * (from + n)
    → list_any (in_span addr) (map (λ k. (bounce + block * k, block)) (filter (λ k. not (list_any (λ other. other == k) [])) (range_with_len from n))) ≡ true
units-cover addr bounce zero from low high = absurd (omega (arith, low, high))
units-cover addr bounce (suc n) from low high =
    let rest : List Span = map (λ k. (bounce + block * k, block)) (filter (λ k. not (list_any (λ other. other == k) [])) (range_with_len (from + 1) n)) in
    elim (cases_lt addr (bounce + block * (from + 1))) [
      | inl here ↦ any-front (in_span addr) ((bounce + block * from, block) ∷ []) rest (one-in addr (bounce + block * from) block low (omega (arith, here)))
      | inr later ↦ any-behind (in_span addr) ((bounce + block * from, block) ∷ []) rest (units-cover addr bounce n (from + 1) later (omega (arith, high)))
    ]

-- the own work of a share whose plan is bounced
bounced-own : (guest : Guest) (entry : List ℕ) (share : Share) (work : Work) (is : IsPlanned guest entry share) → share.plan ≡ Bounced work
    → own_work guest entry share is ≡ work
bounced-own guest entry share work is =
    planned-kinds (λ p. p ≡ Bounced work → own_work guest entry share is ≡ work) guest entry share is (λ e. cc) (λ fits e. cc) (λ e. bounced-same e)
  where
    bounced-same : {a b : Work} → Bounced a ≡ Bounced b → a ≡ b
    bounced-same e = cc

-- ---- tags that have ended with success

pub record HasSucceeded (t : Tag) : Type 0 where
  pub command : Command
  pub st : StatusField
  pub share : Option Share
  pub is : t ≡ Ended command st share
  pub good : is_success st ≡ true

ended-tag : (t : Tag) (st : StatusField) → ended_status (Some t) ≡ Some st → is_success st ≡ true → HasSucceeded t
ended-tag Free st e good = cc
ended-tag (Taken command reads) st e good = cc
ended-tag (Flying command share standing) st e good = cc
ended-tag (Ended command was share) st e good =
    record { command = command; st = was; share = share; is = refl; good = ap is_success (some-same was st e) ∙ good }

-- all have, where the status that decides tells of it
all-succeeded : (number : ℕ) (w : World) (lane : ℕ) (tags : List ℕ) (sts : List StatusField) → statuses_of lane tags w ≡ Some sts
    → is_success (deciding sts) ≡ true → All (HasTag (IsMine number) w lane) tags → All (HasTag (λ t. IsMine number t × HasSucceeded t) w lane) tags
unfolding statuses_of
all-succeeded number w lane [] sts e good have = All-nil (HasTag (λ t. IsMine number t × HasSucceeded t) w lane)
all-succeeded number w lane (tag ∷ tags) sts e good have =
    let h = All-head (HasTag (IsMine number) w lane) tag tags have in
    by (ended_status (tag_of w lane tag)) (statuses_of lane tags w) refl refl e h
    (λ rest is fine. all-succeeded number w lane tags rest is fine (All-tail (HasTag (IsMine number) w lane) tag tags have))
  where
    good-rest : (st : StatusField) (rest : List StatusField) → is_success (deciding (st ∷ rest)) ≡ true → (is_success st ≡ true) × (is_success (deciding rest) ≡ true)
    good-rest st rest e =
        (elim (is_success st) as (λ b. is_success st ≡ b → is_success (cond b (deciding rest) st) ≡ true → (is_success st ≡ true) × (is_success (deciding rest) ≡ true)) [
          | true ↦ λ is fine. (is, fine)
          | false ↦ λ is fine. (let bad : true ≡ false = sym fine ∙ is in cc)
        ]) refl e

    by : (o : Option StatusField) (rest : Option (List StatusField)) → ended_status (tag_of w lane tag) ≡ o → statuses_of lane tags w ≡ rest
        → status_before o rest ≡ Some sts → HasTag (IsMine number) w lane tag
        → ((rest : List StatusField) → statuses_of lane tags w ≡ Some rest → is_success (deciding rest) ≡ true
        → All (HasTag (λ t. IsMine number t × HasSucceeded t) w lane) tags)
        → All (HasTag (λ t. IsMine number t × HasSucceeded t) w lane) (tag ∷ tags)
    by None rest first others both h more = cc
    by (Some st) None first others both h more = cc
    by (Some st) (Some rest) first others both h more =
        let same : st ∷ rest ≡ sts = some-same (st ∷ rest) sts both in
        let each = good-rest st rest (ap (λ x. is_success (deciding x)) same ∙ good) in
        All-cons (HasTag (λ t. IsMine number t × HasSucceeded t) w lane) tag tags
        (record { t = h.t; is = h.is; has = (h.has, ended-tag h.t st (sym (ap ended_status h.is) ∙ first) each.0) })
        (more rest others each.1)

module _ (host_bytes : ℕ) (geometry : Geometry) (w z : World) (laid : IsLaidOut host_bytes (length w.lanes) geometry) (fine : IsConsistentOfTags geometry w)
    (number : ℕ) (guest : Guest) (given : slice_get geometry.guests number ≡ Some guest) (alike : IsAlike number guest geometry w z) where
  abbrev me : Controller → Owner
  me c = own geometry w z number guest given alike c

  abbrev Behind : World → World → Type 0
  Behind v u = IsAlike number guest geometry v u

  -- ---- deliveries

  -- what a bounced Read that succeeded moved is the same in both
  read-same : (lane tag : ℕ) (command : Command) (st : StatusField) (share : Share) (work : Work) → tag_of w lane tag ≡ Some (Ended command st (Some share))
      → is_tag_of number (Some (Ended command st (Some share))) ≡ true → share.plan ≡ Bounced work → is_read work.opcode ≡ true → is_success st ≡ true
      → (addr : ℕ) → bounce_page geometry.mediator lane tag ≤ addr → addr < bounce_page geometry.mediator lane tag + total_len work.pieces
      → w.host addr ≡ z.host addr
  read-same lane tag command st share work there mine bounces reads good addr low high =
      let t = Ended command st (Some share) in
      let a = is-at geometry w lane tag t fine there in
      let of_tag = tag-is geometry w lane tag t fine a in
      let planned = of_tag.planned in
      let g = of_tag.guest in
      let part = own-of g command.entry share planned in
      let mine_own : Work = own_work g command.entry share planned in
      let same : mine_own ≡ work = bounced-own g command.entry share work planned bounces in
      let few : block * length mine_own.units ≡ total_len mine_own.pieces =
      units-few geometry.mediator lane tag laid.pages 0 (form_of planned.work.opcode) mine_own
      (sym (ap is_read part.opcode) ∙ ap (λ (x : Work). is_read x.opcode) same ∙ reads) ∙ sym part.total in
      let many : block * length work.units ≡ total_len work.pieces = subst (λ (x : Work). block * length x.units ≡ total_len x.pieces) same few in
      let bounce = bounce_page geometry.mediator lane tag in
      own-same geometry number guest w z alike lane tag t addr there mine
      (ap (λ p. list_any (in_span addr) (result_shown st p bounce)) bounces
      ∙ ap (λ b. list_any (in_span addr) (cond b (units_shown (Bounced work) [] bounce) [])) good
      ∙ ap (λ b. list_any (in_span addr) (cond b (map (λ k. (bounce + block * k, block))
      (filter (λ k. not (list_any (λ other. other == k) [])) (range_with_len 0 (length work.units)))) [])) reads
      ∙ units-cover addr bounce (length work.units) 0 (omega (arith, low)) (omega (arith, high, many)))

  -- the same is delivered in both, and nothing else changes
  record AreDelivered (v u : World) : Type 0 where
    pub one : v ≡ with_host v.host w
    pub two : u ≡ with_host u.host z
    pub bytes : (addr : ℕ) → w.host addr ≡ z.host addr → v.host addr ≡ u.host addr
    pub left : (a b : ℕ) (t : Tag) (addr : ℕ) → tag_of w a b ≡ Some t → IsBytes geometry.mediator a b t addr → w.host addr ≡ v.host addr

  delivered-nothing : AreDelivered w z
  delivered-nothing = record { one = refl; two = refl; bytes = (λ addr same. same); left = (λ a b t addr there bytes. refl) }

  abbrev left-by : (memory host : ℕ → ℕ) (a b : ℕ) (t : Tag) (addr : ℕ) → tag_of w a b ≡ Some t → IsBytes geometry.mediator a b t addr
      → host addr ≡ put_image (regions_of guest) memory host addr
  left-by = image-left host_bytes geometry w z laid fine number guest given alike

  images-behind : (v u : World) → AreDelivered v u → image (regions_of guest) v.host ≡ image (regions_of guest) u.host
  images-behind v u d = fun_ext (λ addr. memory-behind geometry number guest w z alike v u d.bytes addr)

  delivered-read : (b : Bool) (lane tag : ℕ) (command : Command) (st : StatusField) (share : Share) (work : Work) (c : Controller) (v u : World) → AreDelivered v u
      → is_read work.opcode ≡ b → is_success st ≡ true → share.plan ≡ Bounced work → tag_of w lane tag ≡ Some (Ended command st (Some share))
      → is_tag_of number (Some (Ended command st (Some share))) ≡ true
      → AreDelivered (cond b (scattered_to (bounce_page geometry.mediator lane tag) work (me c) v) v) (cond b (scattered_to (bounce_page geometry.mediator lane tag) work (me c) u) u)
  unfolding scattered_to
  delivered-read false lane tag command st share work c v u d is good bounces there mine = d
  delivered-read true lane tag command st share work c v u d is good bounces there mine =
      let regions = regions_of guest in
      let bounce = bounce_page geometry.mediator lane tag in
      let bytes = bytes_from v.host bounce (total_len work.pieces) in
      let again = bytes_from u.host bounce (total_len work.pieces) in
      let same : bytes ≡ again =
      bytes_from-between v.host u.host bounce (bounce + total_len work.pieces) bounce (total_len work.pieces)
      (λ addr low high. d.bytes addr (read-same lane tag command st share work there mine bounces is good addr low high)) (omega arith) (omega arith) in
      let mem = scattered (image regions v.host) (places_of work.pieces) bytes in
      let other = scattered (image regions u.host) (places_of work.pieces) again in
      let equal : mem ≡ other =
      ap (λ m. scattered m (places_of work.pieces) bytes) (images-behind v u d) ∙ ap (scattered (image regions u.host) (places_of work.pieces)) same in
      record {
        one = ap (λ (x : World). with_host (put_image regions mem v.host) x) d.one;
        two = ap (λ (x : World). with_host (put_image regions other u.host) x) d.two;
        bytes = (λ addr is_same. put_image-both regions mem other v.host u.host addr equal (d.bytes addr is_same));
        left = (λ a b t addr is_there lies. d.left a b t addr is_there lies ∙ left-by mem v.host a b t addr is_there lies);
      }

  plan-delivered : (plan : Plan) (lane tag : ℕ) (command : Command) (st : StatusField) (share : Share) (c : Controller) (v u : World) → AreDelivered v u
      → is_success st ≡ true → share.plan ≡ plan → tag_of w lane tag ≡ Some (Ended command st (Some share))
      → is_tag_of number (Some (Ended command st (Some share))) ≡ true
      → AreDelivered (delivered_by plan (bounce_page geometry.mediator lane tag) (me c) v) (delivered_by plan (bounce_page geometry.mediator lane tag) (me c) u)
  plan-delivered (Answer answer) lane tag command st share c v u d good is there mine = d
  plan-delivered (NoData work) lane tag command st share c v u d good is there mine = d
  plan-delivered (Direct work) lane tag command st share c v u d good is there mine = d
  plan-delivered (Bounced work) lane tag command st share c v u d good is there mine =
      delivered-read (is_read work.opcode) lane tag command st share work c v u d refl good is there mine

  ended-delivered : (share : Option Share) (lane tag : ℕ) (command : Command) (st : StatusField) (c : Controller) (v u : World) → AreDelivered v u
      → is_success st ≡ true → tag_of w lane tag ≡ Some (Ended command st share) → is_tag_of number (Some (Ended command st share)) ≡ true
      → AreDelivered (delivered_from (Some (Ended command st share)) (bounce_page geometry.mediator lane tag) (me c) v)
      (delivered_from (Some (Ended command st share)) (bounce_page geometry.mediator lane tag) (me c) u)
  ended-delivered None lane tag command st c v u d good there mine = d
  ended-delivered (Some share) lane tag command st c v u d good there mine = plan-delivered share.plan lane tag command st share c v u d good refl there mine

  -- what one tag has to deliver
  tag-delivered : (lane tag : ℕ) (c : Controller) (v u : World) → AreDelivered v u → HasTag (λ t. IsMine number t × HasSucceeded t) w lane tag
      → AreDelivered (delivered_from (tag_of v lane tag) (bounce_page geometry.mediator lane tag) (me c) v)
      (delivered_from (tag_of u lane tag) (bounce_page geometry.mediator lane tag) (me c) u)
  tag-delivered lane tag c v u d h =
      let s = h.has.1 in
      let t : Tag = Ended s.command s.st s.share in
      let here : tag_of w lane tag ≡ Some t = h.is ∙ ap (λ x. Some x) s.is in
      let mine : is_tag_of number (Some t) ≡ true = ap (λ x. is_tag_of number (Some x)) (sym s.is) ∙ h.has.0 in
      let there = tag-too geometry w z number guest given alike lane tag t here mine in
      let bounce = bounce_page geometry.mediator lane tag in
      let one : tag_of v lane tag ≡ Some t = ap (λ (x : World). tag_of x lane tag) d.one ∙ here in
      let two : tag_of u lane tag ≡ Some t = ap (λ (x : World). tag_of x lane tag) d.two ∙ there in
      subst (λ o. AreDelivered (delivered_from o bounce (me c) v) (delivered_from (tag_of u lane tag) bounce (me c) u)) (sym one)
      (subst (λ o. AreDelivered (delivered_from (Some t) bounce (me c) v) (delivered_from o bounce (me c) u)) (sym two)
      (ended-delivered s.share lane tag s.command s.st c v u d s.good here mine))

  all-delivered : (lane : ℕ) (tags : List ℕ) (c : Controller) (v u : World) → AreDelivered v u → All (HasTag (λ t. IsMine number t × HasSucceeded t) w lane) tags
      → AreDelivered (delivered_all geometry.mediator lane tags (me c) v) (delivered_all geometry.mediator lane tags (me c) u)
  unfolding delivered_all
  all-delivered lane [] c v u d have = d
  all-delivered lane (tag ∷ tags) c v u d have =
      let P = HasTag (λ t. IsMine number t × HasSucceeded t) w lane in
      let bounce = bounce_page geometry.mediator lane tag in
      all-delivered lane tags c (delivered_from (tag_of v lane tag) bounce (me c) v) (delivered_from (tag_of u lane tag) bounce (me c) u)
      (tag-delivered lane tag c v u d (All-head P tag tags have)) (All-tail P tag tags have)

  are-delivered : (lane : ℕ) (tags : List ℕ) (sts : List StatusField) (c : Controller) → statuses_of lane tags w ≡ Some sts
      → All (HasTag (IsMine number) w lane) tags
      → AreDelivered (delivered (deciding sts) geometry.mediator lane tags (me c) w) (delivered (deciding sts) geometry.mediator lane tags (me c) z)
  are-delivered lane tags sts c e have = by (is_success (deciding sts)) refl
    where
      by : (b : Bool) → is_success (deciding sts) ≡ b
          → AreDelivered (cond b (delivered_all geometry.mediator lane tags (me c) w) w) (cond b (delivered_all geometry.mediator lane tags (me c) z) z)
      by true good = all-delivered lane tags c w z delivered-nothing (all-succeeded number w lane tags sts e good have)
      by false bad = delivered-nothing

  -- ---- completions

  -- memory and controller are the same in both, and the tags are free
  freed-alike : (lane : ℕ) (tags : List ℕ) (d e : DeviceLane) (c now : Controller) (v u p q : World) → AreDelivered v u
      → slice_get w.controllers number ≡ Some c → slice_get z.controllers number ≡ Some c
      → slice_get w.device lane ≡ Some d → slice_get z.device lane ≡ Some e → All (HasTag (IsMine number) w lane) tags → AreDistinct tags
      → p.lanes ≡ v.lanes → q.lanes ≡ u.lanes → p.device ≡ v.device → q.device ≡ u.device → p.disk ≡ v.disk → q.disk ≡ u.disk → p.kept ≡ v.kept → q.kept ≡ u.kept
      → p.controllers ≡ set v.controllers number now → q.controllers ≡ set u.controllers number now
      → ((addr : ℕ) → v.host addr ≡ u.host addr → p.host addr ≡ q.host addr)
      → ((a b : ℕ) (t : Tag) (addr : ℕ) → tag_of w a b ≡ Some t → IsBytes geometry.mediator a b t addr → v.host addr ≡ p.host addr)
      → Behind (with_tags lane tags Free p) (with_tags lane tags Free q)
  freed-alike lane tags d e c now v u p q del one two there again have apart lanes lanes_too device device_too disk disk_too kept kept_too controllers controllers_too bytes left =
      let lanes_w : p.lanes ≡ w.lanes = lanes ∙ ap (λ (y : World). y.lanes) del.one in
      let lanes_z : q.lanes ≡ z.lanes = lanes_too ∙ ap (λ (y : World). y.lanes) del.two in
      let device_w : p.device ≡ w.device = device ∙ ap (λ (y : World). y.device) del.one in
      let device_z : q.device ≡ z.device = device_too ∙ ap (λ (y : World). y.device) del.two in
      let disk_w : p.disk ≡ w.disk = disk ∙ ap (λ (y : World). y.disk) del.one in
      let disk_z : q.disk ≡ z.disk = disk_too ∙ ap (λ (y : World). y.disk) del.two in
      let kept_w : p.kept ≡ w.kept = kept ∙ ap (λ (y : World). y.kept) del.one in
      let kept_z : q.kept ≡ z.kept = kept_too ∙ ap (λ (y : World). y.kept) del.two in
      let mine : p.controllers ≡ set w.controllers number now = controllers ∙ ap (λ (y : World). set y.controllers number now) del.one in
      let mine_too : q.controllers ≡ set z.controllers number now = controllers_too ∙ ap (λ (y : World). set y.controllers number now) del.two in
      let behind : Behind p q =
      alike-lanes geometry number guest w z alike p q lanes_w device_w lanes_z device_z
      (λ a b t addr is lies. del.left a b t addr is lies ∙ left a b t addr is lies)
      (record {
        bytes = (λ addr same. bytes addr (del.bytes addr same));
        blocks = (λ lba offset below.
            ap (λ f. f (place_in guest.namespace lba) offset) disk_w ∙ alike.view.blocks lba offset below
            ∙ sym (ap (λ f. f (place_in guest.namespace lba) offset) disk_z));
        marks = (λ lba below.
            ap (λ f. f (place_in guest.namespace lba)) kept_w ∙ alike.marks lba below ∙ sym (ap (λ f. f (place_in guest.namespace lba)) kept_z));
        controller =
            ap (λ cs. slice_get cs number) mine ∙ slice_get-set w.controllers number c now one
            ∙ sym (ap (λ cs. slice_get cs number) mine_too ∙ slice_get-set z.controllers number c now two);
        shared =
            shared-of p q
            (ap (map lane_numbers) lanes_w ∙ lanes-shared w z alike.shared ∙ sym (ap (map lane_numbers) lanes_z))
            (ap (map ring_numbers) device_w ∙ rings-shared w z alike.shared ∙ sym (ap (map ring_numbers) device_z))
            (ap length mine ∙ length-set w.controllers number now ∙ guests-shared w z alike.shared
            ∙ sym (ap length mine_too ∙ length-set z.controllers number now));
      }) in
      tags-alike geometry number guest given lane tags Free d e p q behind (ap (λ ds. slice_get ds lane) device_w ∙ there) (ap (λ ds. slice_get ds lane) device_z ∙ again)
      (λ x n addr. refl)
      (own-pairs geometry number guest given p q behind lane Free tags (have-still (IsMine number) w p lane tags lanes_w have)) apart

  posted-alike : (v u : World) (posted : Posted) (lane : ℕ) (tags : List ℕ) (d e : DeviceLane) (c : Controller) → AreDelivered v u
      → slice_get w.controllers number ≡ Some c → slice_get z.controllers number ≡ Some c
      → slice_get w.device lane ≡ Some d → slice_get z.device lane ≡ Some e → All (HasTag (IsMine number) w lane) tags → AreDistinct tags
      → Behind (posted_to posted lane tags (me c) v) (posted_to posted lane tags (me c) u)
  unfolding posted_to put_back
  posted-alike v u posted lane tags d e c del one two there again have apart =
      let mem = stored (image (regions_of guest) v.host) posted.addr posted.entry in
      let other = stored (image (regions_of guest) u.host) posted.addr posted.entry in
      freed-alike lane tags d e c posted.controller v u (put_back (me c) mem posted.controller v) (put_back (me c) other posted.controller u) del one two there again have apart
      refl refl refl refl refl refl refl refl refl refl
      (λ addr is_same. put_image-both (regions_of guest) mem other v.host u.host addr (ap (λ m. stored m posted.addr posted.entry) (images-behind v u del)) is_same)
      (λ a b t addr is_there lies. left-by mem v.host a b t addr is_there lies)

  run_out-alike : (v u : World) (queue lane : ℕ) (tags : List ℕ) (d e : DeviceLane) (c : Controller) → AreDelivered v u
      → slice_get w.controllers number ≡ Some c → slice_get z.controllers number ≡ Some c
      → slice_get w.device lane ≡ Some d → slice_get z.device lane ≡ Some e → All (HasTag (IsMine number) w lane) tags → AreDistinct tags
      → Behind (ran_out_of queue lane tags (me c) v) (ran_out_of queue lane tags (me c) u)
  unfolding ran_out_of
  run_out-alike v u queue lane tags d e c del one two there again have apart =
      freed-alike lane tags d e c (ran_out c queue) v u (with_controller number (ran_out c queue) v) (with_controller number (ran_out c queue) u) del one two there again have apart
      refl refl refl refl refl refl refl refl refl refl (λ addr is_same. is_same) (λ a b t addr is_there lies. refl)

  post-found : (found : Option Posted) (sts : List StatusField) (lane : ℕ) (tags : List ℕ) (d e : DeviceLane) (c : Controller)
      → slice_get w.controllers number ≡ Some c → slice_get z.controllers number ≡ Some c → statuses_of lane tags w ≡ Some sts
      → slice_get w.device lane ≡ Some d → slice_get z.device lane ≡ Some e → All (HasTag (IsMine number) w lane) tags → AreDistinct tags
      → Behind (post_by found (deciding sts) geometry.mediator lane tags (me c) w).world (post_by found (deciding sts) geometry.mediator lane tags (me c) z).world
  post-found None sts lane tags d e c one two is there again have apart = alike
  post-found (Some posted) sts lane tags d e c one two is there again have apart =
      posted-alike (delivered (deciding sts) geometry.mediator lane tags (me c) w) (delivered (deciding sts) geometry.mediator lane tags (me c) z) posted lane tags d e c
      (are-delivered lane tags sts c is have) one two there again have apart

  all-posted : (sts : Option (List StatusField)) (command : Command) (lane : ℕ) (tags : List ℕ) (d e : DeviceLane) (c : Controller)
      → slice_get w.controllers number ≡ Some c → slice_get z.controllers number ≡ Some c → statuses_of lane tags w ≡ sts
      → slice_get w.device lane ≡ Some d → slice_get z.device lane ≡ Some e → All (HasTag (IsMine number) w lane) tags → AreDistinct tags
      → Behind (post_all sts command geometry.mediator lane tags (me c) w).world (post_all sts command geometry.mediator lane tags (me c) z).world
  all-posted None command lane tags d e c one two is there again have apart = alike
  all-posted (Some sts) command lane tags d e c one two is there again have apart =
      either-both Behind w z alike (is_enabled c) (is_enabled c) refl _ _ _ _
      (λ enabled. post-found (post c command.queue 0 (cid_of command.entry) (deciding sts)) sts lane tags d e c one two is there again have apart)
      (λ fell.
      run_out-alike (delivered (deciding sts) geometry.mediator lane tags (me c) w) (delivered (deciding sts) geometry.mediator lane tags (me c) z) command.queue lane tags d e c
      (are-delivered lane tags sts c is have) one two there again have apart)

  pub posts-alike : GoesByItsOwn number w → GoesByItsOwn number z → (lane tag : ℕ) → guest_of_one (tag_of w lane tag) ≡ Some number
      → Behind (step geometry (event.Post lane tag) w).world (step geometry (event.Post lane tag) z).world
  unfolding step
  posts-alike owned owned_too lane tag mine =
      let posting = λ (v : World) (command : Command) (o : Owner).
      post_all (statuses_of lane (group v lane tag) v) command geometry.mediator lane (group v lane tag) o v in
      let more = λ (v : World) (command : Command). for_owner (owner_of geometry v command.guest) v (posting v command) in
      subst (λ t. Behind (for_ended tag (tag_of w lane tag) w (more w)).world (for_ended tag t z (more z)).world) (tag-here geometry w z number guest given alike lane tag mine)
      (ended-both Behind w z alike number tag (tag_of w lane tag) mine (more w) (more z) (λ command st share there whose leads.
      owner-both geometry w z number guest given alike Behind alike command.guest whose (posting w command) (posting z command) (λ c one two.
      (let x = sides-both host_bytes geometry w z laid fine number guest given alike lane tag (Ended command st share) there in
      let its : is_tag_of number (tag_of w lane tag) ≡ true = ap (is_tag_of number) there ∙ eq-eqb command.guest number whose in
      let tags = group w lane tag in
      subst (λ ns. Behind (post_all (statuses_of lane tags w) command geometry.mediator lane tags (me c) w).world
      (post_all (statuses_of lane ns z) command geometry.mediator lane ns (me c) z).world) (group-same geometry w z number guest given alike owned owned_too lane tag its)
      (subst (λ sts. Behind (post_all (statuses_of lane tags w) command geometry.mediator lane tags (me c) w).world
      (post_all sts command geometry.mediator lane tags (me c) z).world)
      (statuses-same geometry w z number guest given alike owned owned_too lane tag its
      ∙ sym (ap (λ ns. statuses_of lane ns z) (group-same geometry w z number guest given alike owned owned_too lane tag its)))
      (all-posted (statuses_of lane tags w) command lane tags x.0 x.1 c one two refl x.2 x.3 (group-mine number w lane tag owned its) (group-distinct w lane tag)))))))
