-- Where a guest's completion queue has no room, no completion of a command of that queue is due.
use Rattle.std.proofs.Common.{◌≡◌, ℕ, ◌+◌, ◌==◌, cond, Bool, true, false, List, length, [], slice_get, Option, Some, None, is_some, option_map, eqb-true, refl, sym, ap, ◌∙◌, subst, arith}
use Rattle.nv_core.proofs.Dues.{due-by}
use Rattle.nv_core.proofs.GroupTags.{lane-where, numbers-from}
use Rattle.nv_core.proofs.TagLists.{made-at}
use Rattle.nv_core.specs.Front.{IsSideOf}
use Rattle.nv_laws_sound.specs.Side.{Side}
use Rattle.nv_core.specs.FullQueues.{AreHeldWith, AreWaiting, IsFull, NoneWait, from_in, is_from, origin_by, origin_in}
use Rattle.nv_core.specs.Tags.{IsUsed, command_at, IsWhole, tag_made, tags_of}
use Rattle.nv_core.specs.declared.full.Origin.{Origin}
use Rattle.nv_core.specs.declared.progress.Progress.{Progress}
use Rattle.nv_entry.specs.Status.{StatusField}
use Rattle.nv_entry.specs.Submission.{cid_of}
use Rattle.nv_laws_sound.proofs.Lists.{slice_get-below, some-same}
use Rattle.nv_model.proofs.Endings.{and-true}
use Rattle.nv_model.specs.Controller.{Controller, Posted, is_enabled, post}
use Rattle.nv_model.specs.declared.reply.Reply.TheVariants as reply
use Rattle.nv_tags.proofs.Rows.{among-holding, holding, is_among}
use Rattle.nv_tags.specs.Numbers as slot_numbers
use Rattle.nv_tags.specs.Tags.{Slot, command_of, tags_where as slots_where}
use Rattle.nv_tags.specs.Tags as slot
use Rattle.nv_tags.specs.declared.claim.Claim.{Claim}
use Rattle.nv_world_model.specs.Due.{due}
use Rattle.nv_world_model.specs.Geometry.{Geometry, Guest}
use Rattle.nv_world_model.specs.Seat.{Owner, owner_by, owner_of}
use Rattle.nv_world_model.specs.Step.{After, deciding, for_ended, for_owner, is_done, post_all, post_by, replied, statuses_of, step}
use Rattle.nv_world_model.specs.World.{Command, Ended, Flying, Free, Lane, Tag, Taken, World, group, tag_in, tag_of, tags_where}
use Rattle.nv_world_model.specs.declared.event.Event.TheVariants as event

-- ---- where a command was taken from

pub origin-is : (claim : Claim) (leader : ℕ) (command : Command) → Some (command_of claim leader) ≡ Some command
    → (let o : Origin = record { guest = claim.guest; queue = claim.queue } in o) ≡ origin_by command
origin-is claim leader command e = ap origin_by (some-same (command_of claim leader) command e)

made-from : (kept : List Progress) (s : Slot) (p : Progress) (guest queue : ℕ) → IsUsed kept s p
    → is_from guest queue (tag_made kept s p) ≡ slot_numbers.is_from guest queue s
made-from kept slot.Free p guest queue is = refl
made-from kept (slot.Used command slot.Taken) p guest queue is = ap (is_from guest queue) (made-at kept command slot.Taken p is).1
made-from kept (slot.Used command slot.Flying) p guest queue is = ap (is_from guest queue) (made-at kept command slot.Flying p is).1.1
made-from kept (slot.Used command (slot.Ended st)) p guest queue is = ap (is_from guest queue) (made-at kept command (slot.Ended st) p is).1

module _ (head : ℕ) (phase : Bool) (slots : List Slot) (ps : List Progress) (old : Lane) (whole : IsWhole head slots ps)
    (view : (let l : Lane = record { head = head; phase = phase; tags = tags_of slots ps } in l) ≡ old) where
  pub from-there : (guest queue : ℕ) → slots_where (slot_numbers.is_from guest queue) slots ≡ from_in guest queue old
  from-there guest queue =
      sym (lane-where head phase slots ps old whole view (is_from guest queue) (slot_numbers.is_from guest queue) (λ s p is. made-from ps s p guest queue is))

-- ---- a tag that is among those of which a test holds

abbrev test_at : (Tag → Bool) → Option Tag → Bool
test_at test None = false
test_at test (Some t) = test t

pub among-test : (test : Tag → Bool) (tags : List Tag) (k : ℕ) (t : Tag) → is_among (tags_where test tags) k ≡ true → slice_get tags k ≡ Some t → test t ≡ true
among-test test tags k t among there =
    let below = slice_get-below tags k t there in
    let rows : tags_where test tags ≡ holding (λ i. test_at test (slice_get tags i)) 0 (length tags) =
    numbers-from test (λ i. test_at test (slice_get tags i)) 0 tags
    (λ i u at. (let same : i ≡ 0 + i = omega arith in sym (ap (test_at test) at) ∙ ap (λ (n : ℕ). test_at test (slice_get tags n)) same)) in
    sym (ap (test_at test) there)
    ∙ sym (among-holding (λ i. test_at test (slice_get tags i)) 0 (length tags) k (omega arith) (omega (arith, below)))
    ∙ sym (ap (λ (xs : List ℕ). is_among xs k) rows) ∙ among

-- ---- no room

-- no room where a completion may not be
pub no-room : (enabled : Bool) (posted : Option Posted) → cond enabled (is_some posted) true ≡ false → (enabled ≡ true) × (posted ≡ None)
no-room true None e = (refl, refl)
no-room true (Some p) e = cc
no-room false p e = cc

module _ (geometry : Geometry) (w : World) (lane other guest queue : ℕ) (c : Controller) (found : slice_get w.controllers guest ≡ Some c)
    (enabled : is_enabled c ≡ true) (full : (cid : ℕ) (st : StatusField) → post c queue 0 cid st ≡ None) where
  abbrev posted_to_owner : Command → Owner → After
  posted_to_owner command o =
      (let tags = group w lane other in post_all (statuses_of lane tags w) command geometry.mediator lane tags o w)

  held : (b : Bool) (p : Option Posted) (st : StatusField) (o : Owner) (x : After) → b ≡ true → p ≡ None
      → is_done (cond b (post_by p st geometry.mediator lane (group w lane other) o w) x).reply ≡ false
  held true None st o x e f = refl
  held true (Some p) st o x e f = cc
  held false p st o x e f = cc

  by_statuses : (command : Command) → command.queue ≡ queue → (sts : Option (List StatusField)) (o : Owner) → o.controller ≡ c
      → is_done (post_all sts command geometry.mediator lane (group w lane other) o w).reply ≡ false
  by_statuses command same None o e = refl
  by_statuses command same (Some sts) o e =
      held (is_enabled o.controller) (post o.controller command.queue 0 (cid_of command.entry) (deciding sts)) (deciding sts) o _
      (ap is_enabled e ∙ enabled)
      (ap (λ (x : Controller). post x command.queue 0 (cid_of command.entry) (deciding sts)) e
      ∙ ap (λ (n : ℕ). post c n 0 (cid_of command.entry) (deciding sts)) same ∙ full (cid_of command.entry) (deciding sts))

  by_owner : (command : Command) → command.queue ≡ queue → (g : Option Guest) (k : Option Controller) → k ≡ Some c
      → is_done (for_owner (owner_by command.guest g k) w (posted_to_owner command)).reply ≡ false
  by_owner command same None k e = refl
  by_owner command same (Some given) None e = cc
  by_owner command same (Some given) (Some k) e =
      by_statuses command same (statuses_of lane (group w lane other) w) (record { number = command.guest; given = given; controller = k }) (some-same k c e)

  by_leader : (b : Bool) (x : After) → is_done x.reply ≡ false → is_done (cond b x (replied reply.Stale w)).reply ≡ false
  by_leader true x e = e
  by_leader false x e = refl

  ended-held : (t : Option Tag) → ((u : Tag) → t ≡ Some u → is_from guest queue u ≡ true)
      → is_done (for_ended other t w (λ command. for_owner (owner_of geometry w command.guest) w (posted_to_owner command))).reply ≡ false
  ended-held None are = refl
  ended-held (Some Free) are = refl
  ended-held (Some (Taken command reads)) are = refl
  ended-held (Some (Flying command share at)) are = refl
  ended-held (Some (Ended command st share)) are =
      let both = and-true (command.guest == guest) (command.queue == queue) (are (Ended command st share) refl) in
      by_leader (command.leader == other) (for_owner (owner_of geometry w command.guest) w (posted_to_owner command))
      (by_owner command (eqb-true command.queue queue both.1) (slice_get geometry.guests command.guest) (slice_get w.controllers command.guest)
      (ap (λ (n : ℕ). slice_get w.controllers n) (eqb-true command.guest guest both.0) ∙ found))

  post-held : ((u : Tag) → tag_of w lane other ≡ Some u → is_from guest queue u ≡ true) → due geometry (event.Post lane other) w ≡ false
  unfolding step
  post-held are =
      due-by geometry (event.Post lane other) w
      (for_ended other (tag_of w lane other) w (λ command. for_owner (owner_of geometry w command.guest) w (posted_to_owner command))) refl
      ∙ ended-held (tag_of w lane other) are

-- no completion of a command of a full queue is due
pub full-held : (geometry : Geometry) (side : Side) (memory : List ℕ) (w : World) → IsSideOf side memory w → (lane other guest queue : ℕ)
    → IsFull guest queue side → (l : Lane) → slice_get side.lanes lane ≡ Some l → (tags : List ℕ) → tags ≡ from_in guest queue l
    → is_among tags other ≡ true → due geometry (event.Post lane other) w ≡ false
full-held geometry side memory w on lane other guest queue is l there tags are among =
    post-held geometry w lane other guest queue is.controller (ap (λ (cs : List Controller). slice_get cs guest) on.controllers ∙ is.there)
    is.enabled is.full
    (λ u at.
    among-test (is_from guest queue) l.tags other u (sym (ap (λ (xs : List ℕ). is_among xs other) are) ∙ among)
    (sym (ap (λ (o : Option Lane). tag_in o other) (ap (λ (ls : List Lane). slice_get ls lane) on.lanes ∙ there)) ∙ at))

-- nor is one of none
pub none-held : (tags : List ℕ) (other : ℕ) (is : Bool) → tags ≡ [] → is_among tags other ≡ true → is ≡ false
none-held tags other is none among = (let bad : false ≡ true = sym (ap (λ (xs : List ℕ). is_among xs other) none) ∙ among in cc)

-- ---- all that wait with one

-- a controller whose queue is full takes no completion
pub none-posted : (guest queue : ℕ) (side : Side) → IsFull guest queue side → (c : Controller) → slice_get side.controllers guest ≡ Some c
    → cond (is_enabled c) (is_some (post c queue 0 0 (deciding []))) true ≡ false
none-posted guest queue side is c there =
    ap (λ (x : Controller). cond (is_enabled x) (is_some (post x queue 0 0 (deciding []))) true) (some-same c is.controller (sym there ∙ is.there))
    ∙ ap (λ (b : Bool). cond b (is_some (post is.controller queue 0 0 (deciding []))) true) is.enabled
    ∙ ap (λ (p : Option Posted). is_some p) (is.full 0 (deciding []))

pub none-waits : (side : Side) (lane tag : ℕ) (here : Lane) → slice_get side.lanes lane ≡ Some here → (o : Origin)
    → origin_in (slice_get here.tags tag) ≡ Some o → IsFull o.guest o.queue side → (tags : List ℕ) → NoneWait lane tag side tags
none-waits side lane tag here there o origin full tags = λ l command at used room.
    let same : l ≡ here = some-same l here (sym at ∙ there) in
    let from : o ≡ origin_by command =
    some-same o (origin_by command)
    (sym origin ∙ ap (λ (x : Lane). origin_in (slice_get x.tags tag)) (sym same) ∙ ap (λ (t : Option Command). option_map origin_by t) used) in
    absurd (room (subst (λ (x : Origin). IsFull x.guest x.queue side) from full))

pub all-waiting : (side : Side) (lane tag : ℕ) (here : Lane) → slice_get side.lanes lane ≡ Some here → (o : Origin)
    → origin_in (slice_get here.tags tag) ≡ Some o → (tags : List ℕ) → tags ≡ from_in o.guest o.queue here → AreWaiting lane tag side tags
all-waiting side lane tag here there o origin tags are = λ l command at used full.
    let same : l ≡ here = some-same l here (sym at ∙ there) in
    let from : o ≡ origin_by command =
    some-same o (origin_by command)
    (sym origin ∙ ap (λ (x : Lane). origin_in (slice_get x.tags tag)) (sym same) ∙ ap (λ (t : Option Command). option_map origin_by t) used) in
    are ∙ ap (λ (x : Origin). from_in x.guest x.queue here) from ∙ ap (λ (x : Lane). from_in command.guest command.queue x) (sym same)

-- each that waits with one is of the same guest
by-command : (guest queue : ℕ) (its command : Command) → (its.guest == guest ≡ true) × (its.queue == queue ≡ true) → ◌≡◌ {A = Option Command} (Some its) (Some command)
    → (command.guest ≡ guest) × (command.queue ≡ queue)
by-command guest queue its command both is =
    (let same = some-same its command is in
    (ap (λ (x : Command). x.guest) (sym same) ∙ eqb-true its.guest guest both.0, ap (λ (x : Command). x.queue) (sym same) ∙ eqb-true its.queue queue both.1))

command-from : (guest queue : ℕ) (t : Option Tag) (command : Command) → command_at t ≡ Some command → ((u : Tag) → t ≡ Some u → is_from guest queue u ≡ true)
    → (command.guest ≡ guest) × (command.queue ≡ queue)
command-from guest queue None command is from = cc
command-from guest queue (Some Free) command is from = cc
command-from guest queue (Some (Taken its reads)) command is from = (let both = and-true _ _ (from (Taken its reads) refl) in by-command guest queue its command both is)
command-from guest queue (Some (Flying its share at)) command is from = (let both = and-true _ _ (from (Flying its share at) refl) in by-command guest queue its command both is)
command-from guest queue (Some (Ended its st share)) command is from = (let both = and-true _ _ (from (Ended its st share) refl) in by-command guest queue its command both is)

pub held-with : (side : Side) (lane tag : ℕ) (here : Lane) → slice_get side.lanes lane ≡ Some here → (o : Origin)
    → origin_in (slice_get here.tags tag) ≡ Some o → IsFull o.guest o.queue side → (tags : List ℕ) → tags ≡ from_in o.guest o.queue here
    → AreHeldWith lane tag side tags
held-with side lane tag here there o origin full tags are = λ l other mine their at among mine_at their_at.
    let same : here ≡ l = some-same here l (sym there ∙ at) in
    let from : o ≡ origin_by mine =
    some-same o (origin_by mine)
    (sym origin ∙ ap (λ (x : Lane). origin_in (slice_get x.tags tag)) same ∙ ap (λ (t : Option Command). option_map origin_by t) mine_at) in
    let is = command-from o.guest o.queue (slice_get l.tags other) their their_at
    (λ u u_at. among-test (is_from o.guest o.queue) l.tags other u
    (sym (ap (λ (xs : List ℕ). is_among xs other) (are ∙ ap (λ (x : Lane). from_in o.guest o.queue x) same)) ∙ among) u_at) in (
      is.0 ∙ ap (λ (x : Origin). x.guest) from,
      subst (λ (n : ℕ). IsFull n their.queue side) (sym is.0) (subst (λ (n : ℕ). IsFull o.guest n side) (sym is.1) full),
    )
