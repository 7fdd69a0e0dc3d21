-- A Post and an Admin end with the completion that they post.
use Rattle.std.proofs.Common.{◌≡◌, ℕ, ◌+◌, ◌≤◌, Bool, false, not, ◌==◌, nat_lt, nat_le, ◌&&◌, List, [], ◌∷◌, ◌++◌, All, drop, flat_map, length, slice_get}
use Rattle.std.proofs.Common.{slice_index, take, Option, Some, None, arith, refl, set, sym, ap, ◌∙◌, subst}
use Rattle.std.specs.List.{Contains}
use Rattle.std.proofs.lemmas.Bool.Decides.{nat_tests}
use Rattle.std.proofs.lemmas.List.{length-take-le}
use Rattle.std.proofs.lemmas.List.Elements.{All-append, All-cons, All-contains_itself, All-nil, All-weaker}
use Rattle.nv_entry.specs.Opcode.{admin_opcode}
use Rattle.nv_entry.specs.Status.{StatusField}
use Rattle.nv_entry.specs.Submission.{cid_of, fuse_of, opcode_of, psdt_of}
use Rattle.nv_entry.specs.declared.opcode.AdminOpcode.{AdminOpcode}
use Rattle.nv_entry.specs.declared.opcode.AdminOpcode.TheVariants.{DeleteIoSubmissionQueue, CreateIoSubmissionQueue, GetLogPage}
use Rattle.nv_entry.specs.declared.opcode.AdminOpcode.TheVariants.{DeleteIoCompletionQueue, CreateIoCompletionQueue, Identify}
use Rattle.nv_entry.specs.declared.opcode.AdminOpcode.TheVariants.{Abort, SetFeatures, GetFeatures, AsynchronousEventRequest}
use Rattle.nv_entry.specs.declared.status_code.StatusCode.{StatusCode}
use Rattle.nv_laws_sound.specs.LaidOut.{IsLaidOut}
use Rattle.nv_laws_sound.specs.Side.{IsKept, Side}
use Rattle.nv_laws_sound.proofs.Lists.{some-same}
use Rattle.nv_machine.proofs.AdminWords.{carried_by, no_memory}
use Rattle.nv_machine.specs.Doing.{Called, Doing, controller_put, group_at, owner_in, replied, tag_at, tag_put, tags_put, told}
use Rattle.nv_machine.specs.Effects.{Effect, Store, completion_stores, store_at, writes_to}
use Rattle.nv_machine.specs.InWorld.{AreOnPages}
use Rattle.nv_machine.specs.Machine.{admin_stores, administered_in, answered_with, call, called, completed_with, deletion_done, delivered_by, delivered_from}
use Rattle.nv_machine.specs.Machine.{delivery, front_done, post_all, post_at, post_by, ready_done, statuses_of}
use Rattle.nv_machine.specs.Order.{Delivered, EndsWith, IsDelivered, IsInOrder, IsStructure, Posts, PostsNone}
use Rattle.nv_machine.proofs.AdminDone.{admin_command-done}
use Rattle.nv_machine.proofs.Effects.{page-of-entry}
use Rattle.nv_machine.proofs.Elims.{each-ended, each-one, each-owner}
use Rattle.nv_machine.proofs.Hosts.{row-in-page}
use Rattle.nv_machine.proofs.Posted.{AreReady, IsPlaced, post-placed, ready-placed}
use Rattle.nv_mem.specs.GuestMap.{IsSound, host_of, mapped}
use Rattle.nv_model.specs.Admin.{AdminEffect, Hidden, Shown, Structure, admin_command, answered, checked, delete_found, done_by, done_with_opcode, identified, identify_by}
use Rattle.nv_model.specs.Admin.{is_queue_full, qid, refused, selector, number_of_queues, shown, identify_reading}
use Rattle.nv_model.specs.Controller.{Controller, Deletion, Posted, completion_queue, front, is_enabled, is_ready, post, ran_out, submission_queue, took, took_of, with_submission}
use Rattle.nv_model.specs.Laws.{IsCompletionInPlace, IsCompletionOnPage, IsSubmissionInPlace, IsSubmissionOnPage, QueuesInPlace, QueuesOnPages}
use Rattle.nv_model.specs.Limits.{most_requests}
use Rattle.nv_model.specs.Queue.{SubmissionQueue}
use Rattle.nv_model.specs.Reading.{Faulty, Reading, Spells, TooLong}
use Rattle.nv_model.specs.declared.reply.Reply.{Reply}
use Rattle.nv_model.specs.declared.reply.Reply.TheVariants as reply
use Rattle.nv_model.proofs.QueueOrder.{IsKept-in_place, IsKept-on_pages}
use Rattle.nv_model.proofs.QueuesKept.{by_test, took-kept}
use Rattle.nv_world_model.specs.Area.{bounce_page}
use Rattle.nv_world_model.specs.Contained.{guest_of_one}
use Rattle.nv_world_model.specs.Geometry.{Geometry, Guest, regions_of, shape_of}
use Rattle.nv_world_model.specs.Seat.{Owner}
use Rattle.nv_world_model.specs.Step.{deciding, is_success}
use Rattle.nv_world_model.specs.World.{Command, Ended, Flying, Free, Tag, Taken}
use Rattle.nv_world_model.specs.declared.event.Event.TheVariants as event
use Rattle.nv_world_model.proofs.Seats.{slice_get-set}

-- ---- the completion

-- a completion that lies in place is stored in two parts
stores-two : (given : Guest) (p : Posted) → IsSound given.memory_map → IsPlaced given (Some p)
    → (to : ℕ) × ((host_of (regions_of given) p.addr ≡ Some to)
    × (completion_stores (regions_of given) p.addr p.entry ≡ Store to (take 12 p.entry) ∷ Store (to + 12) (drop 12 p.entry) ∷ []))
stores-two given p sound placed =
    let row = row-in-page given.memory_map p.addr 16 sound (omega arith) (page-of-entry p.addr placed.0) placed.2 in
    let from : p.addr ≡ p.addr + 0 = omega arith in
    let to : row.0 + 0 ≡ row.0 = omega arith in
    let first : host_of (regions_of given) p.addr ≡ Some row.0 =
    ap (host_of (regions_of given)) from ∙ row.1.contiguous 0 (omega arith) ∙ ap (λ (h : ℕ). Some h) to in
    let second : host_of (regions_of given) (p.addr + 12) ≡ Some (row.0 + 12) = row.1.contiguous 12 (omega arith) in (
      row.0,
      (
        first,
        ap (λ o. store_at o (take 12 p.entry) ++ store_at (host_of (regions_of given) (p.addr + 12)) (drop 12 p.entry)) first
            ∙ ap (λ o. Store row.0 (take 12 p.entry) ∷ store_at o (drop 12 p.entry)) second,
      ),
    )

-- so data and a completion end with it
ends-with : (IsData : Effect → Type 0) (given : Guest) (p : Posted) (before : List Effect) → IsSound given.memory_map → IsPlaced given (Some p) → All IsData before
    → EndsWith IsData (regions_of given) p (before ++ completion_stores (regions_of given) p.addr p.entry)
ends-with IsData given p before sound placed each =
    let two = stores-two given p sound placed in
    record { before = before; to = two.0; there = two.1.0; size = placed.1; are = ap (λ xs. before ++ xs) two.1.1; is_data = each }

-- its first part does not write the dword
pub dword-last : (before : List Effect) (to : ℕ) (entry : List ℕ) (at : ℕ) → length entry ≡ 16 → to + 12 ≤ at
    → All (λ (e : Effect). writes_to e at ≡ false) before → All (λ (e : Effect). writes_to e at ≡ false) (before ++ Store to (take 12 entry) ∷ [])
dword-last before to entry at size high apart =
    let Apart : Effect → Type 0 = λ e. writes_to e at ≡ false in
    let twelve : length (take 12 entry) ≡ 12 = length-take-le 12 entry (omega (arith, size)) in
    All-append Apart before (Store to (take 12 entry) ∷ []) apart
    (All-cons Apart (Store to (take 12 entry)) [] (outside to (length (take 12 entry)) at (omega (arith, twelve, high))) (All-nil Apart))
  where
    outside : (to len at : ℕ) → to + len ≤ at → (nat_le to at && nat_lt at (to + len)) ≡ false
    outside to len at high = grind (arith, nat_tests)

-- ---- tags and controllers

tags-effects : (lane : ℕ) (tags : List ℕ) (t : Tag) (m : Doing) → (tags_put lane tags t m).effects ≡ m.effects
unfolding tags_put
tags-effects lane [] t m = refl
tags-effects lane (tag ∷ tags) t m = tags-effects lane tags t (tag_put lane tag t m)

tags-controllers : (lane : ℕ) (tags : List ℕ) (t : Tag) (m : Doing) → (tags_put lane tags t m).side.controllers ≡ m.side.controllers
unfolding tags_put
tags-controllers lane [] t m = refl
tags-controllers lane (tag ∷ tags) t m = tags-controllers lane tags t (tag_put lane tag t m)

module _ (IsData : Effect → Type 0) (given : Guest) (c : Controller) (number : ℕ) where
  abbrev After : Called → Type 0
  After x = IsInOrder IsData given c (slice_get x.now.side.controllers number) x.now.effects

  module _ (m : Doing) (there : slice_get m.side.controllers number ≡ Some c) (none : m.effects ≡ []) where
    -- nothing is done
    pub not-done : (r : Reply) → After (replied r m)
    not-done r =
        PostsNone (subst (All IsData) (sym none) (All-nil IsData))
        (λ d is. sym (ap (λ (x : Controller). x.completion_queues) (some-same c d (sym there ∙ is))))

    abbrev same-now : (d : Controller) → slice_get (set m.side.controllers number d) number ≡ Some d
    same-now d = slice_get-set m.side.controllers number c d there

    -- a controller with the same completion queues, and data
    pub only-data : (d : Controller) (effects : List Effect) → All IsData effects → d.completion_queues ≡ c.completion_queues
        → IsInOrder IsData given c (slice_get (set m.side.controllers number d) number) effects
    only-data d effects each same =
        PostsNone each (λ e is. ap (λ (x : Controller). x.completion_queues) (some-same e d (sym is ∙ same-now d)) ∙ same)

    -- a completion
    pub completes : (from : Controller) (queue dw0 cid : ℕ) (st : StatusField) (p : Posted) → post from queue dw0 cid st ≡ Some p → (before : List Effect)
        → IsSound given.memory_map → IsPlaced given (Some p) → All IsData before
        → IsInOrder IsData given c (slice_get (set m.side.controllers number p.controller) number) (before ++ completion_stores (regions_of given) p.addr p.entry)
    completes from queue dw0 cid st p posted before sound placed each =
        Posts from queue dw0 cid st p posted (ends-with IsData given p before sound placed each) (same-now p.controller)

-- ---- Post

module _ (geometry : Geometry) (s : Side) (lane : ℕ) (given : Guest) where
  abbrev Own : Effect → Type 0
  Own = IsDelivered geometry s lane given

  tag-delivers : (tag : ℕ) (t : Option Tag) → tag_at s lane tag ≡ t → All Own (delivered_from t (bounce_page geometry.mediator lane tag) given)
  tag-delivers tag None is = All-nil Own
  tag-delivers tag (Some Free) is = All-nil Own
  tag-delivers tag (Some (Taken command reads)) is = All-nil Own
  tag-delivers tag (Some (Flying command share standing)) is = All-nil Own
  tag-delivers tag (Some (Ended command st None)) is = All-nil Own
  tag-delivers tag (Some (Ended command st (Some share))) is =
      let effects : List Effect = delivered_by share.plan (bounce_page geometry.mediator lane tag) given in
      All-weaker (Contains effects) Own (λ e among. Delivered tag command st share is among) effects (All-contains_itself effects)

  tags-deliver : (tags : List ℕ) → All Own (flat_map (λ tag. delivered_from (tag_at s lane tag) (bounce_page geometry.mediator lane tag) given) tags)
  tags-deliver [] = All-nil Own
  tags-deliver (tag ∷ tags) =
      All-append Own (delivered_from (tag_at s lane tag) (bounce_page geometry.mediator lane tag) given) _ (tag-delivers tag (tag_at s lane tag) refl) (tags-deliver tags)

  all-deliver : (st : StatusField) (tags : List ℕ) → All Own (delivery st geometry.mediator lane tags given s)
  all-deliver st tags = by_test (All Own) (is_success st) _ _ (λ _. tags-deliver tags) (λ _. All-nil Own)

  module _ (number : ℕ) (c : Controller) (there : slice_get s.controllers number ≡ Some c) (sound : IsSound given.memory_map)
      (place : QueuesInPlace (mapped (regions_of given)) c) (on : QueuesOnPages c) where
    abbrev m : Doing
    m = record { side = s; effects = [] }

    abbrev o : Owner
    o = record { number = number; given = given; controller = c }

    by-posted : (command : Command) (st : StatusField) (delivered : List Effect) (tags : List ℕ) (found : Option Posted)
        → post c command.queue 0 (cid_of command.entry) st ≡ found → All Own delivered → After Own given c number (post_by found delivered lane tags o m)
    by-posted command st delivered tags None is each = not-done Own given c number m there refl reply.Held
    by-posted command st delivered tags (Some p) is each =
        let told_now : Doing = controller_put number p.controller (told (delivered ++ completion_stores (regions_of given) p.addr p.entry) m) in
        let placed : IsPlaced given (Some p) = subst (IsPlaced given) is (post-placed geometry o place on command.queue 0 (cid_of command.entry) st) in
        subst (λ cs. IsInOrder Own given c (slice_get cs number) (tags_put lane tags Free told_now).effects) (sym (tags-controllers lane tags Free told_now))
        (subst (IsInOrder Own given c (slice_get (set s.controllers number p.controller) number)) (sym (tags-effects lane tags Free told_now))
        (completes Own given c number m there refl c command.queue 0 (cid_of command.entry) st p is delivered sound placed each))

    by-status : (command : Command) (st : StatusField) (delivered : List Effect) (tags : List ℕ) → All Own delivered
        → After Own given c number (post_at command st delivered lane tags o m)
    unfolding ran_out
    by-status command st delivered tags each =
        by_test (After Own given c number) (is_enabled c) _ _
        (λ _. by-posted command st delivered tags (post c command.queue 0 (cid_of command.entry) st) refl each)
        (λ _.
        (let told_now : Doing = controller_put number (ran_out c command.queue) (told delivered m) in
        subst (λ cs. IsInOrder Own given c (slice_get cs number) (tags_put lane tags Free told_now).effects) (sym (tags-controllers lane tags Free told_now))
        (subst (IsInOrder Own given c (slice_get (set s.controllers number (ran_out c command.queue)) number)) (sym (tags-effects lane tags Free told_now))
        (only-data Own given c number m there refl (ran_out c command.queue) delivered each refl))))

    by-statuses : (sts : Option (List StatusField)) (command : Command) (tags : List ℕ)
        → After Own given c number (post_all sts command geometry.mediator lane tags o m)
    by-statuses None command tags = not-done Own given c number m there refl reply.Stale
    by-statuses (Some sts) command tags = by-status command (deciding sts) _ tags (all-deliver (deciding sts) tags)

-- ---- Admin

-- a command that isn't answered leaves the completion queues
abbrev IsQuiet : Controller → AdminEffect → Type 0
IsQuiet c done = done.answer ≡ None → done.controller.completion_queues ≡ c.completion_queues

module _ (mapped : ℕ → Bool) (blocks : ℕ) (entry : List ℕ) (c : Controller) where
  abbrev Quiet : AdminEffect → Type 0
  Quiet done = IsQuiet c done

  refused-quiet : (why : StatusCode) → Quiet (refused why c no_memory)
  refused-quiet why none = cc

  checked-quiet : (o : Option StatusCode) (dw0 : ℕ) (d : Controller) → Quiet (checked o c no_memory (answered dw0 d no_memory))
  checked-quiet None dw0 d none = cc
  checked-quiet (Some why) dw0 d none = cc

  found-quiet : (q : Option SubmissionQueue) → Quiet (delete_found q entry c no_memory)
  found-quiet None = λ none. cc
  found-quiet (Some q) = by_test Quiet (slice_index c.taken (qid entry) == 0) _ _ (λ _ none. cc) (λ _ none. refl)

  identified-quiet : (bytes : List ℕ) (r : Reading) → Quiet (identified bytes r c no_memory)
  identified-quiet bytes (Spells pieces) none = cc
  identified-quiet bytes (Faulty why) none = cc
  identified-quiet bytes TooLong none = cc

  shown-quiet : (what : Shown) → Quiet (identify_by what mapped entry c no_memory)
  shown-quiet (Hidden why) = λ none. cc
  shown-quiet (Structure bytes) = identified-quiet bytes (identify_reading mapped entry)

  by-quiet : (opcode : AdminOpcode) → Quiet (done_by opcode mapped blocks entry c no_memory)
  by-quiet DeleteIoSubmissionQueue = by_test Quiet (qid entry == 0) _ _ (λ _ none. cc) (λ _. found-quiet (submission_queue c (qid entry)))
  by-quiet CreateIoSubmissionQueue = checked-quiet _ _ _
  by-quiet GetLogPage = λ none. cc
  by-quiet DeleteIoCompletionQueue = checked-quiet _ _ _
  by-quiet CreateIoCompletionQueue = checked-quiet _ _ _
  by-quiet Identify = shown-quiet (shown blocks entry)
  by-quiet Abort = λ none. cc
  by-quiet SetFeatures = checked-quiet _ _ _
  by-quiet GetFeatures = by_test Quiet (selector entry == number_of_queues) _ _ (λ _ none. cc) (λ _ none. cc)
  by-quiet AsynchronousEventRequest = by_test Quiet (nat_lt c.held_requests most_requests) _ _ (λ _ none. refl) (λ _ none. cc)

  opcode-quiet : (opcode : Option AdminOpcode) → Quiet (done_with_opcode opcode mapped blocks entry c no_memory)
  opcode-quiet None = λ none. cc
  opcode-quiet (Some opcode) = by_test Quiet (psdt_of entry == 0) _ _ (λ _. by-quiet opcode) (λ _ none. cc)

  command-quiet : Quiet (admin_command mapped blocks entry c no_memory)
  unfolding admin_command
  command-quiet = by_test Quiet (fuse_of entry == 0) _ _ (λ _. opcode-quiet (admin_opcode (opcode_of entry))) (λ _ none. cc)

-- taking an entry leaves them, too
took-same : (c : Controller) (y : ℕ) → (took c y).completion_queues ≡ c.completion_queues
unfolding took
took-same c y = by (submission_queue c y)
  where
    by : (q : Option SubmissionQueue) → (took_of q c y).completion_queues ≡ c.completion_queues
    by None = refl
    by (Some q) = refl

module _ (given : Guest) (s : Side) (number : ℕ) (c : Controller) (entry : List ℕ) (there : slice_get s.controllers number ≡ Some c)
    (sound : IsSound given.memory_map) (place : QueuesInPlace (mapped (regions_of given)) c) (on : QueuesOnPages c) where
  abbrev Bytes : Effect → Type 0
  Bytes = IsStructure given entry

  abbrev now : Doing
  now = record { side = s; effects = [] }

  abbrev whose : Owner
  whose = record { number = number; given = given; controller = c }

  abbrev Fine : Called → Type 0
  Fine = After Bytes given c number

  idle : (r : Reply) → Fine (replied r now)
  idle r = not-done Bytes given c number now there refl r

  by-completed : (from : Controller) (dw0 cid : ℕ) (st : StatusField) (effects : List Effect) (found : Option Posted) → post from 0 dw0 cid st ≡ found
      → AreReady given from → All Bytes effects → Fine (completed_with found effects whose now)
  by-completed from dw0 cid st effects None is ready each = idle reply.Held
  by-completed from dw0 cid st effects (Some p) is ready each =
      completes Bytes given c number now there refl from 0 dw0 cid st p is effects sound (subst (IsPlaced given) is (ready-placed given from ready 0 dw0 cid st)) each

  by-answer : (answer : Option (ℕ × StatusField)) (cid : ℕ) (from : Controller) (effects : List Effect) → AreReady given from → All Bytes effects
      → (answer ≡ None → from.completion_queues ≡ c.completion_queues) → Fine (answered_with answer cid from effects whose now)
  by-answer None cid from effects ready each quiet = only-data Bytes given c number now there refl from effects each (quiet refl)
  by-answer (Some answer) cid from effects ready each quiet =
      by-completed from answer.0 cid answer.1 effects (post from 0 answer.0 cid answer.1) refl ready each

  deletion-ordered : (d : Deletion) → Fine (deletion_done d whose now)
  deletion-ordered d =
      by_test Fine (not (slice_index c.taken d.queue == 0)) _ _ (λ _. idle reply.Idle)
      (λ _. by_test Fine (is_queue_full (completion_queue c 0)) _ _ (λ _. idle reply.Held)
      (λ _. by-answer (Some _) d.cid (record (with_submission c d.queue None) { deletion = None }) []
      (record { places = place.completion_queues; pages = on.completion_queues }) (All-nil Bytes) (λ none. cc)))

  took-ready : AreReady given (took c 0)
  took-ready =
      let test : ℕ → Bool = mapped (regions_of given) in
      record {
        places = (took-kept test (IsSubmissionInPlace test) (IsCompletionInPlace test) (IsKept-in_place test) c 0 place).completion_queues;
        pages = (took-kept test IsSubmissionOnPage IsCompletionOnPage (IsKept-on_pages test) c 0 on).completion_queues;
      }

  command-ordered : Fine (carried_by (admin_command (shape_of given).mapped (shape_of given).blocks entry (took c 0) no_memory) (cid_of entry) (admin_stores entry given) whose now)
  command-ordered =
      let done : AdminEffect = admin_command (shape_of given).mapped (shape_of given).blocks entry (took c 0) no_memory in
      let is = admin_command-done given (λ _. 0) sound.apart entry (took c 0) took-ready in
      by-answer done.answer (cid_of entry) done.controller (admin_stores entry given) (subst (AreReady given) is.controller is.ready)
      (All-contains_itself (admin_stores entry given))
      (λ none. command-quiet (shape_of given).mapped (shape_of given).blocks entry (took c 0) none ∙ took-same c 0)

  front-ordered : (f : Option ℕ) → Fine (front_done f entry whose now)
  front-ordered None = idle reply.Idle
  front-ordered (Some addr) = by_test Fine (is_queue_full (completion_queue c 0)) _ _ (λ _. idle reply.Held) (λ _. command-ordered)

  ready-ordered : (d : Option Deletion) → Fine (ready_done d entry whose now)
  ready-ordered None = front-ordered (front c 0)
  ready-ordered (Some d) = deletion-ordered d

  admin-ordered : Fine (administered_in entry whose now)
  admin-ordered = by_test Fine (is_ready c) _ _ (λ _. ready-ordered c.deletion) (λ _. idle reply.Idle)

-- ---- the events

-- where guest and controller are there, they are the owner
owner-there : (geometry : Geometry) (s : Side) (number : ℕ) (given : Guest) (c : Controller) → slice_get geometry.guests number ≡ Some given
    → slice_get s.controllers number ≡ Some c → (o : Owner) → owner_in geometry s number ≡ Some o → record { number = number; given = given; controller = c } ≡ o
owner-there geometry s number given c is there o found =
    let whose : owner_in geometry s number ≡ Some (record { number = number; given = given; controller = c }) = rw (is, there) refl in
    some-same _ o (sym whose ∙ found)

module _ (host_bytes : ℕ) (geometry : Geometry) (s : Side) (laid : IsLaidOut host_bytes (length s.lanes) geometry) (kept : IsKept geometry s)
    (pages : AreOnPages s.controllers) where
  pub post-ordered : (lane tag number : ℕ) (fetched : List ℕ) (given : Guest) (c : Controller) → guest_of_one (tag_at s lane tag) ≡ Some number
      → slice_get geometry.guests number ≡ Some given → slice_get s.controllers number ≡ Some c
      → After (IsDelivered geometry s lane given) given c number (call geometry (event.Post lane tag) fetched s)
  unfolding called
  post-ordered lane tag number fetched given c whose is there =
      let m : Doing = record { side = s; effects = [] } in
      let P : Called → Type 0 = After (IsDelivered geometry s lane given) given c number in
      let none = not-done (IsDelivered geometry s lane given) given c number m there refl in
      each-ended P m none tag (tag_at s lane tag) _ (λ command st share ended.
      (let same : command.guest ≡ number = some-same command.guest number (sym (ap guest_of_one ended) ∙ whose) in
      each-owner P m none (owner_in geometry s command.guest) _ (λ o found.
      subst (λ (x : Owner). P (post_all (statuses_of lane (group_at s lane tag) s) command geometry.mediator lane (group_at s lane tag) x m))
      (owner-there geometry s number given c is there o (ap (owner_in geometry s) (sym same) ∙ found))
      (by-statuses geometry s lane given number c there (laid.given number given is).sound (kept.queues number given c is there) (pages number c there)
      (statuses_of lane (group_at s lane tag) s) command (group_at s lane tag)))))

  pub admins-ordered : (number : ℕ) (entry : List ℕ) (given : Guest) (c : Controller) → slice_get geometry.guests number ≡ Some given
      → slice_get s.controllers number ≡ Some c → After (IsStructure given entry) given c number (call geometry (event.Admin number) entry s)
  unfolding called
  admins-ordered number entry given c is there =
      let m : Doing = record { side = s; effects = [] } in
      let P : Called → Type 0 = After (IsStructure given entry) given c number in
      each-one P m (not-done (IsStructure given entry) given c number m there refl) (owner_in geometry s number) _ (λ o found.
      subst (λ (x : Owner). P (administered_in entry x m)) (owner-there geometry s number given c is there o found)
      (admin-ordered given s number c entry there (laid.given number given is).sound (kept.queues number given c is there) (pages number c there)))
