-- The private controller of a guest goes along where a command of the guest's is completed, or runs out: all its tags become free at once.
use Rattle.std.proofs.Common.{◌≡◌, ℕ, ◌+◌, ◌*◌, ◌<◌, ◌≤◌, ◌⊎◌, inl, inr, Bool, true, false, cond, ◌||◌, ◌==◌, List, []}
use Rattle.std.proofs.Common.{◌∷◌, length, set, slice_get, Option, Some, None, arith, refl, sym, ap, ◌∙◌, eq-eqb, eqb-true, subst}
use Rattle.std.specs.List.{list_any}
use Rattle.nv_entry.specs.Status.{StatusField}
use Rattle.nv_entry.specs.Submission.{cid_of}
use Rattle.nv_entry.proofs.CompletionLemmas.{length-completion}
use Rattle.nv_mem.specs.GuestMap.{mapped}
use Rattle.nv_model.specs.Controller.{Controller, Posted, completion_queue, is_enabled, post, post_from, post_to, ran_out, submission_queue}
use Rattle.nv_model.specs.Laws.{IsCompletionInPlace, IsSubmissionInPlace}
use Rattle.nv_model.specs.Memory.{image, put_image, stored}
use Rattle.nv_model.specs.Private.{PostStep, Private, RunOutStep, Taken as Member, ending, put, step as private_step, unseen}
use Rattle.nv_model.specs.Queue.{CompletionQueue, SubmissionQueue, cqe_size, is_full}
use Rattle.nv_model.specs.declared.reply.Reply.TheVariants as reply
use Rattle.nv_model.proofs.MemoryAlike.{stored-at}
use Rattle.nv_model.proofs.MemoryLemmas.{stored-outside}
use Rattle.nv_model.proofs.PutImages.{image-put_image, put_image-elsewhere}
use Rattle.nv_model.proofs.QueueOrder.{IsKept-in_place}
use Rattle.nv_model.proofs.QueuesKept.{completion_queue-has}
use Rattle.nv_world_model.specs.declared.event.Event.TheVariants as event
use Rattle.nv_world_model.specs.Contained.{guest_of_one}
use Rattle.nv_world_model.specs.Disciplined.{in_order}
use Rattle.nv_world_model.specs.Geometry.{Geometry, Guest, regions_of, shape_of}
use Rattle.nv_world_model.specs.PrivateSteps.{leaves}
use Rattle.nv_world_model.specs.Share.{Share}
use Rattle.nv_world_model.specs.Seat.{Owner, ended_progress, name_of, owner_of, put_back, rests_of}
use Rattle.nv_world_model.specs.Step.{deciding, delivered, for_owner, post_all, post_at, post_by, posted_to, ran_out_of, replied, statuses_of, step}
use Rattle.nv_world_model.specs.View.{is_tag_of}
use Rattle.nv_world_model.specs.World.{Command, Ended, Flying, Free, Tag, Taken, World, group, tag_of}
use Rattle.nv_world_model.proofs.Seats.{slice_get-set}
use Rattle.nv_laws_sound.specs.Groups.{command_of, part_of}
use Rattle.nv_laws_sound.proofs.Groupings.{goes-of}
use Rattle.nv_laws_sound.proofs.Lists.{some-same}
use Rattle.nv_laws.specs.Following.{GoesAlong, IsReached}
use Rattle.nv_laws.specs.Related.{Related}
use Rattle.nv_laws.proofs.related.Acts.{owner-there, owner_with}
use Rattle.nv_laws.proofs.related.Apart.{none-clash, pair-never, tags-pair}
use Rattle.nv_laws.proofs.related.Beginning.{entry_awaits}
use Rattle.nv_laws.proofs.related.Changing.{touched}
use Rattle.nv_laws.proofs.related.Disciplines.{not-so, order-is, own-taken}
use Rattle.nv_laws.proofs.related.Goings.{dull-goes, one-goes}
use Rattle.nv_laws.proofs.related.Named.{any-none, any_entry}
use Rattle.nv_laws.proofs.related.Rests.{goes-part, led}
use Rattle.nv_laws.proofs.related.Tags.{bag-is, member-mine}
use Rattle.nv_laws.proofs.related.Undisturbed.{IsTagUntouched, IsUntouched, entry_names}
use Rattle.nv_laws.proofs.related.Views.{own-there}
use Rattle.nv_laws.proofs.related.Ways.{either-way, ended-way}
use Rattle.nv_laws.proofs.headline.Answering.{led-touched}
use Rattle.nv_laws.proofs.headline.Apart.{IsNamed, slots-apart}
use Rattle.nv_laws.proofs.headline.Delivered.{IsDelivered, OthersShow, delivers, image-kept}
use Rattle.nv_laws.proofs.headline.Freed.{freed-related}
use Rattle.nv_laws.proofs.headline.Over.{ended-has, ends}

-- ---- where its completion goes

-- a completion goes to a slot of a completion queue that is there
record IsInSlot (c : Controller) (posted : Posted) : Type 0 where
  to : ℕ
  cq : CompletionQueue
  there : completion_queue c to ≡ Some cq
  addr_is : posted.addr ≡ cq.base + cqe_size * cq.tail
  sized : length posted.entry ≡ cqe_size

full-or : (b : Bool) (one posted : Posted) → cond b None (Some one) ≡ Some posted → one ≡ posted
full-or true one posted e = cc
full-or false one posted e = some-same one posted e

to-slot : (o : Option CompletionQueue) (c : Controller) (q : SubmissionQueue) (y dw0 cid : ℕ) (st : StatusField) (posted : Posted)
    → completion_queue c q.completes_to ≡ o → post_to o c q y dw0 cid st ≡ Some posted → IsInSlot c posted
to-slot None c q y dw0 cid st posted there e = cc
to-slot (Some cq) c q y dw0 cid st posted there e =
    let same = full-or (is_full cq.size cq.head cq.tail) _ posted e in
    record {
      to = q.completes_to;
      cq = cq;
      there = there;
      addr_is = sym (ap (λ (x : Posted). x.addr) same);
      sized = sym (ap (λ (x : Posted). length x.entry) same) ∙ length-completion dw0 q.head y cid cq.phase st;
    }

from-slot : (o : Option SubmissionQueue) (c : Controller) (y dw0 cid : ℕ) (st : StatusField) (posted : Posted) → post_from o c y dw0 cid st ≡ Some posted
    → IsInSlot c posted
from-slot None c y dw0 cid st posted e = cc
from-slot (Some q) c y dw0 cid st posted e = to-slot (completion_queue c q.completes_to) c q y dw0 cid st posted refl e

post-slot : (c : Controller) (y dw0 cid : ℕ) (st : StatusField) (posted : Posted) → post c y dw0 cid st ≡ Some posted → IsInSlot c posted
unfolding post
post-slot c y dw0 cid st posted e = from-slot (submission_queue c y) c y dw0 cid st posted e

-- ---- tags

-- what each command leaves alone, a tag does
untouched-by : (number : ℕ) (guest : Guest) (host other memory behind : ℕ → ℕ) (u : Tag) → is_tag_of number (Some u) ≡ true
    → ((entry : List ℕ) → any_entry number u ≡ entry ∷ [] → IsUntouched guest entry host other memory behind) → IsTagUntouched u guest host other memory behind
untouched-by number guest host other memory behind Free mine each = tt
untouched-by number guest host other memory behind (Taken command reads) mine each = each command.entry (ap (λ b. cond b (command.entry ∷ []) []) mine)
untouched-by number guest host other memory behind (Flying command share standing) mine each = each command.entry (ap (λ b. cond b (command.entry ∷ []) []) mine)
untouched-by number guest host other memory behind (Ended command st share) mine each = each command.entry (ap (λ b. cond b (command.entry ∷ []) []) mine)

module _ (host_bytes : ℕ) (geometry : Geometry) (number : ℕ) (guest : Guest) (given : slice_get geometry.guests number ≡ Some guest)
    (w : World) (reached : IsReached host_bytes geometry w) (p : Private) (related : Related geometry number guest w p) (lane tag : ℕ)
    (ordered : in_order None number guest w ≡ true) where
  abbrev name : ℕ
  name = name_of lane tag

  abbrev ns : List ℕ
  ns = group w lane tag

  abbrev me : Owner
  me = owner_with number guest p.controller

  module _ (command : Command) (first_st : StatusField) (first_share : Option Share) (there : tag_of w lane tag ≡ Some (Ended command first_st first_share))
      (leads : (command.leader == tag) ≡ true) (own : (command.guest == number) ≡ true) (sts : List StatusField) (are : statuses_of lane ns w ≡ Some sts) where
    abbrev was : Tag
    was = Ended command first_st first_share

    abbrev st : StatusField
    st = deciding sts

    abbrev Away : (a b : ℕ) → Type 0
    Away a b = (a ≡ lane) → touched ns b ≡ true → ⊥

    has : command_of (part_of was) ≡ Some command
    has = ended-has command first_st first_share

    leads_as : command.leader ≡ tag
    leads_as = eqb-true command.leader tag leads

    -- ---- what is delivered

    abbrev Shown : (addr : ℕ) → Type 0
    Shown addr = OthersShow host_bytes geometry number guest given w reached p related lane tag command first_st first_share there leads own sts are addr

    delivery : IsDelivered guest command.entry w.host p.memory Shown w (delivered st geometry.mediator lane ns me w)
    delivery = delivers host_bytes geometry number guest given w reached p related lane tag command first_st first_share there leads own sts are

    -- what another command names isn't awaited by this one
    other-apart : (a b : ℕ) → Away a b → (u : Tag) → tag_of w a b ≡ Some u → (entry : List ℕ) → any_entry number u ≡ entry ∷ []
        → (at : ℕ) → entry_names guest w.host at entry ≡ true → entry_awaits guest w.host at command.entry ≡ false
    other-apart a b away u here entry is at named = by (command_of (part_of u)) refl
      where
        by : (o : Option Command) → command_of (part_of u) ≡ o → entry_awaits guest w.host at command.entry ≡ false
        by None none = let bad : entry ∷ [] ≡ [] = sym is ∙ any-none number u none in cc
        by (Some other) found =
            not-so (entry_awaits guest w.host at command.entry)
            (λ awaited.
            pair-never number guest w p.controller at (none-clash number guest w p.controller related.controller ordered)
            (tags-pair geometry number w reached.consistent (entry_awaits guest w.host at) (entry_names guest w.host at) lane tag a b was u command other there here has found
            (λ same also.
            away (sym same)
            (led-touched w lane tag b
            (ap (λ x. led tag (tag_of w x b)) same ∙ ap (led tag) here ∙ goes-part tag u ∙ goes-of tag (part_of u) other found (sym also ∙ leads_as))))
            (ap (λ c. list_any (entry_awaits guest w.host at) (cond c (command.entry ∷ []) [])) own ∙ ap (λ c. c || false) awaited)
            (ap (list_any (entry_names guest w.host at)) is ∙ ap (λ c. c || false) named)))

    -- ---- the private controller's step

    abbrev member : Member
    member = record { queue = command.queue; entry = command.entry; progress = ended_progress first_share first_st (rests_of geometry w lane tag) }

    bag-there : p.bag name ≡ Some member
    bag-there =
        bag-is host_bytes geometry number guest given w reached p related lane tag was there
        ∙ member-mine tag number command (ended_progress first_share first_st (rests_of geometry w lane tag)) leads own

    ended : ending member.progress ≡ Some st
    ended = ends host_bytes geometry number guest given w reached p related lane tag command first_st first_share there leads own sts are

    steps-of : (b : Bool) → is_enabled p.controller ≡ b
        → cond (is_tag_of number (tag_of w lane tag)) (leaves (slice_get w.controllers number) name) [] ≡ cond b (PostStep name ∷ []) (RunOutStep name ∷ [])
    steps-of b is =
        ap (λ o. cond (is_tag_of number o) (leaves (slice_get w.controllers number) name) []) there
        ∙ ap (λ x. cond x (leaves (slice_get w.controllers number) name) []) own
        ∙ ap (λ o. leaves o name) related.controller ∙ ap (λ x. cond x (PostStep name ∷ []) (RunOutStep name ∷ [])) is

    -- ---- it runs out

    abbrev run_out : Private
    run_out = record p { controller = ran_out p.controller command.queue; bag = put p.bag name None }

    ran-out-made : is_enabled p.controller ≡ false → private_step (shape_of guest) (RunOutStep name) p ≡ unseen run_out
    unfolding private_step
    ran-out-made disabled = rw (bag-there, ended, disabled) refl

    ran-out-related : Related geometry number guest (ran_out_of command.queue lane ns me (delivered st geometry.mediator lane ns me w)) run_out
    unfolding ran_out_of
    ran-out-related =
        let d = delivery in
        subst (λ v. Related geometry number guest (ran_out_of command.queue lane ns me v) run_out) (sym d.is)
        (freed-related host_bytes geometry number guest given w reached p related lane tag was command there has leads_as d.behind
        (set w.controllers number (ran_out p.controller command.queue)) d.bytes p.memory (ran_out p.controller command.queue)
        (λ a b away u mine_too.
        (let here = own-there number (tag_of w a b) u mine_too in
        untouched-by number guest w.host d.behind p.memory p.memory u here.1
        (λ entry is at named. (sym (d.apart at (other-apart a b away u here.0 entry is at named)), refl))))
        (slice_get-set w.controllers number p.controller (ran_out p.controller command.queue) related.controller)
        (λ addr inside others. d.agrees addr inside others))

    ran-out-goes : is_enabled p.controller ≡ false
        → GoesAlong geometry number guest (event.Post lane tag) w p (replied reply.Done (ran_out_of command.queue lane ns me (delivered st geometry.mediator lane ns me w)))
    ran-out-goes disabled =
        one-goes geometry number guest (event.Post lane tag) w (ran_out_of command.queue lane ns me (delivered st geometry.mediator lane ns me w)) p
        run_out (RunOutStep name) refl (steps-of false disabled) (ran-out-made disabled) ran-out-related

    -- ---- it is completed

    module _ (posted : Posted) (room : post p.controller command.queue 0 (cid_of command.entry) st ≡ Some posted) where
      abbrev completed : Private
      completed = record p { memory = stored p.memory posted.addr posted.entry; controller = posted.controller; bag = put p.bag name None }

      posted-made : is_enabled p.controller ≡ true → private_step (shape_of guest) (PostStep name) p ≡ unseen completed
      unfolding private_step
      posted-made enabled = rw (bag-there, ended, enabled, room) refl

      -- a byte that another command names is outside of its slot
      outside-slot : (a b : ℕ) (u : Tag) → tag_of w a b ≡ Some u → (entry : List ℕ) → any_entry number u ≡ entry ∷ [] → (at : ℕ)
          → entry_names guest w.host at entry ≡ true → (at < posted.addr) ⊎ (posted.addr + length posted.entry ≤ at)
      outside-slot a b u here entry is at named =
          let slot = post-slot p.controller command.queue 0 (cid_of command.entry) st posted room in
          let test = mapped (regions_of guest) in
          let place = completion_queue-has test (IsSubmissionInPlace test) (IsCompletionInPlace test) (IsKept-in_place test) p.controller slot.to slot.cq
          (reached.consistent.of_tags.queues number guest p.controller given related.controller) slot.there in
          let tail = place.0.tail_is_slot in
          let addr_is = slot.addr_is in
          let sized = slot.sized in
          let is_named : IsNamed number guest w at =
          record { entry = entry; taken = own-taken geometry number w reached.consistent.groups a b u entry here is; named = named } in
          elim (slots-apart number guest w p.controller (order-is number guest w None p.controller related.controller ordered).0 slot.to slot.cq slot.there at is_named) [
            | inl low ↦ inl (omega (arith, low, addr_is))
            | inr high ↦ inr (omega (arith, high, addr_is, sized, tail))
          ]

      posted-related : Related geometry number guest (posted_to posted lane ns me (delivered st geometry.mediator lane ns me w)) completed
      unfolding posted_to put_back
      posted-related =
          let d = delivery in
          let now = stored (image (regions_of guest) d.behind) posted.addr posted.entry in
          let host = put_image (regions_of guest) now d.behind in
          let sound = (reached.laid.given number guest given).sound in
          subst (λ v. Related geometry number guest (posted_to posted lane ns me v) completed) (sym d.is)
          (freed-related host_bytes geometry number guest given w reached p related lane tag was command there has leads_as host
          (set w.controllers number posted.controller)
          (λ at out. put_image-elsewhere (regions_of guest) now d.behind at out ∙ d.bytes at out)
          (stored p.memory posted.addr posted.entry) posted.controller
          (λ a b away u mine_too.
          (let here = own-there number (tag_of w a b) u mine_too in
          untouched-by number guest w.host host p.memory (stored p.memory posted.addr posted.entry) u here.1
          (λ entry is at named.
          (let out = outside-slot a b u here.0 entry is at named in (
            sym (image-kept guest sound now d.behind at (stored-outside (image (regions_of guest) d.behind) posted.addr posted.entry at out)
                ∙ d.apart at (other-apart a b away u here.0 entry is at named)),
            sym (stored-outside p.memory posted.addr posted.entry at out),
          )))))
          (slice_get-set w.controllers number p.controller posted.controller related.controller)
          (λ addr inside others.
          stored-at p.memory (image (regions_of guest) d.behind) posted.addr posted.entry addr (d.agrees addr inside others)
          ∙ sym (image-put_image (regions_of guest) now d.behind addr sound.apart inside)))

      posted-goes : is_enabled p.controller ≡ true
          → GoesAlong geometry number guest (event.Post lane tag) w p (replied reply.Done (posted_to posted lane ns me (delivered st geometry.mediator lane ns me w)))
      posted-goes enabled =
          one-goes geometry number guest (event.Post lane tag) w (posted_to posted lane ns me (delivered st geometry.mediator lane ns me w)) p completed
          (PostStep name) refl (steps-of true enabled) (posted-made enabled) posted-related

    -- with room or without
    room-goes : is_enabled p.controller ≡ true → (found : Option Posted) → post p.controller command.queue 0 (cid_of command.entry) st ≡ found
        → GoesAlong geometry number guest (event.Post lane tag) w p (post_by found st geometry.mediator lane ns me w)
    room-goes enabled None room = dull-goes geometry number guest (event.Post lane tag) w p refl related reply.Held refl
    room-goes enabled (Some posted) room = posted-goes posted room enabled

    leaves-goes : GoesAlong geometry number guest (event.Post lane tag) w p (post_at command st geometry.mediator lane ns me w)
    leaves-goes =
        either-way (GoesAlong geometry number guest (event.Post lane tag) w p) w (dull-goes geometry number guest (event.Post lane tag) w p refl related)
        (is_enabled p.controller) _ _ (λ enabled. room-goes enabled (post p.controller command.queue 0 (cid_of command.entry) st) refl) ran-out-goes

  -- whether all its tags have ended or not
  all-go : (command : Command) (first_st : StatusField) (first_share : Option Share) → tag_of w lane tag ≡ Some (Ended command first_st first_share)
      → (command.leader == tag) ≡ true → (command.guest == number) ≡ true → (found : Option (List StatusField)) → statuses_of lane ns w ≡ found
      → GoesAlong geometry number guest (event.Post lane tag) w p (post_all found command geometry.mediator lane ns me w)
  all-go command first_st first_share there leads own None are = dull-goes geometry number guest (event.Post lane tag) w p refl related reply.Stale refl
  all-go command first_st first_share there leads own (Some sts) are = leaves-goes command first_st first_share there leads own sts are

  pub posts-go : guest_of_one (tag_of w lane tag) ≡ Some number → GoesAlong geometry number guest (event.Post lane tag) w p (step geometry (event.Post lane tag) w)
  unfolding step
  posts-go whose =
      let P = GoesAlong geometry number guest (event.Post lane tag) w p in
      let more = λ (command : Command) (o : Owner). post_all (statuses_of lane ns w) command geometry.mediator lane ns o w in
      ended-way P w (dull-goes geometry number guest (event.Post lane tag) w p refl related) tag (tag_of w lane tag)
      (λ command. for_owner (owner_of geometry w command.guest) w (more command)) (λ command first_st first_share there leads.
      (let same : command.guest ≡ number = some-same command.guest number (sym (ap guest_of_one there) ∙ whose) in
      let found : owner_of geometry w command.guest ≡ Some me =
      ap (owner_of geometry w) same ∙ owner-there geometry number guest w p.controller given related.controller in
      subst (λ x. P (for_owner x w (more command))) (sym found)
      (all-go command first_st first_share there leads (eq-eqb command.guest number same) (statuses_of lane ns w) refl)))
