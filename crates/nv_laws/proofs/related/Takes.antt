-- The private controller of a guest goes along where a command of it is taken.
use Rattle.std.proofs.Common.{◌≡◌, ℕ, zero, suc, ◌+◌, ◌≤◌, true, cond, ◌&&◌, ◌==◌, nat_le, List, [], ◌∷◌, All, length, slice_get, take, Option, Some, None}
use Rattle.std.proofs.Common.{is_none, arith, refl, sym, ap, ◌∙◌, eq-eqb, leb-true, subst}
use Rattle.std.proofs.lemmas.Bool.{lt-ltb, ne_eqb}
use Rattle.std.proofs.lemmas.List.Elements.{All-nil}
use Rattle.nv_mem.specs.GuestMap.{mapped}
use Rattle.nv_model.proofs.Endings.{and-true}
use Rattle.nv_model.proofs.MemoryAlike.{front-mapped}
use Rattle.nv_model.proofs.MemoryLemmas.{bytes_from-same}
use Rattle.nv_model.proofs.QueueOrder.{IsKept-in_place}
use Rattle.nv_model.proofs.QueuesKept.{submission_queue-has}
use Rattle.nv_model.specs.Controller.{front, queue_of, took}
use Rattle.nv_model.specs.Laws.{IsCompletionInPlace, IsInOrder, IsSubmissionInPlace}
use Rattle.nv_model.specs.Limits.{last_queue}
use Rattle.nv_model.specs.Memory.{bytes_from, image}
use Rattle.nv_model.specs.Private.{Private, TakeStep, Unjudged, may_take, put, step as private_step, taken_at, unseen, Taken as Member}
use Rattle.nv_model.specs.Queue.{SubmissionQueue, sqe_size}
use Rattle.nv_model.specs.declared.reply.Reply.TheVariants as reply
use Rattle.nv_world_model.specs.declared.event.Event.TheVariants as event
use Rattle.nv_world_model.specs.Area.{bounce_page}
use Rattle.nv_world_model.specs.Geometry.{Geometry, Guest, regions_of, shape_of}
use Rattle.nv_world_model.specs.Share.{tags_of_entry}
use Rattle.nv_world_model.proofs.Seats.{slice_get-set}
use Rattle.nv_world_model.proofs.TagCounts.{tags_of_entry-some}
use Rattle.nv_world_model.specs.PrivateSteps.{taken_as, takes}
use Rattle.nv_world_model.specs.Seat.{Owner, member_in, name_of, owner_of, rests_of}
use Rattle.nv_world_model.specs.Step.{After, entry_at, for_one, is_io_queue, replied, step, take_from, take_front, take_tags, taken_to}
use Rattle.nv_world_model.specs.View.{own_held}
use Rattle.nv_world_model.specs.World.{Command, Free, Lane, Tag, Taken, World, claimed, is_free, tag_of, with_controller, with_tags}
use Rattle.nv_laws_sound.proofs.Folds.{HasTag}
use Rattle.nv_laws_sound.proofs.Lists.{some-same}
use Rattle.nv_laws_sound.proofs.Numbers.{numbers-are, numbers_where}
use Rattle.nv_laws_sound.proofs.Takes.{IsFree, claimed-free, claimed-is}
use Rattle.nv_laws.specs.Following.{GoesAlong, IsDisciplinedAt, IsReached}
use Rattle.nv_laws.specs.Related.{AreReadsShown, IsTagRelated, Related}
use Rattle.nv_laws.proofs.related.Acts.{owner-there, owner_with}
use Rattle.nv_laws.proofs.related.Beginning.{not-awaited}
use Rattle.nv_laws.proofs.related.Changing.{all-touched, first-touched, touched, with_tags-away, with_tags-here, with_tags-rest}
use Rattle.nv_laws.proofs.related.Disciplines.{order-is}
use Rattle.nv_laws.proofs.related.Fronts.{entry-free}
use Rattle.nv_laws.proofs.related.Goings.{dull-goes, one-goes}
use Rattle.nv_laws.proofs.related.Rests.{led}
use Rattle.nv_laws.proofs.related.Retold.{IsRetold, retag-related}
use Rattle.nv_laws.proofs.related.Tags.{bag-is, hides-nothing, member-mine, own-as, tag-below}
use Rattle.nv_laws.proofs.related.Views.{device_of, status_in}
use Rattle.nv_laws.proofs.related.Ways.{either-way, guest-way, lane-way}

-- nothing was read of its lists
no-reads : (guest : Guest) (entry : List ℕ) (host : ℕ → ℕ) → AreReadsShown guest entry host []
no-reads guest entry host = All-nil _

module _ (host_bytes : ℕ) (geometry : Geometry) (number : ℕ) (guest : Guest) (given : slice_get geometry.guests number ≡ Some guest)
    (w : World) (reached : IsReached host_bytes geometry w) (p : Private) (related : Related geometry number guest w p) where
  abbrev o : Owner
  o = owner_with number guest p.controller

  abbrev mine : ℕ → ℕ
  mine = image (regions_of guest) w.host

  -- the guest's queues are in order
  pub queues-sorted : (queue : ℕ) (q : SubmissionQueue) → slice_get p.controller.submission queue ≡ Some (Some q) → IsInOrder q.size q.head q.tail
  queues-sorted queue q there =
      (submission_queue-has (mapped (regions_of guest)) (IsSubmissionInPlace (mapped (regions_of guest))) (IsCompletionInPlace (mapped (regions_of guest)))
      (IsKept-in_place (mapped (regions_of guest))) p.controller queue q (reached.consistent.of_tags.queues number guest p.controller given related.controller) (ap queue_of there)).0

  module _ (queue lane : ℕ) (disciplined : IsDisciplinedAt geometry number guest (event.Take number queue lane) w) where
    -- the entry is the same in both
    entry-same : (addr : ℕ) → front p.controller queue ≡ Some addr → bytes_from p.memory addr sqe_size ≡ bytes_from mine addr sqe_size
    entry-same addr found =
        let clear = (order-is number guest w None p.controller related.controller disciplined.before).0 in
        bytes_from-same p.memory mine addr addr sqe_size
        (λ i below.
        related.memory (addr + i)
        (front-mapped (mapped (regions_of guest)) p.controller queue addr (reached.consistent.of_tags.queues number guest p.controller given related.controller) found i below)
        (not-awaited geometry number guest w reached.consistent p related (addr + i)
        (entry-free number guest w p.controller queue addr found (queues-sorted queue) clear (addr + i) (omega arith) (omega (arith, below)))))

    module _ (l : Lane) (at : slice_get w.lanes lane ≡ Some l) (io : is_io_queue queue ≡ true) (addr : ℕ) (found : front p.controller queue ≡ Some addr)
        (tag : ℕ) (rest : List ℕ) (free : All (HasTag IsFree w lane) (tag ∷ rest)) where
      abbrev name : ℕ
      name = name_of lane tag

      abbrev member : List ℕ → Member
      member entry = record { queue = queue; entry = entry; progress = Unjudged }

      abbrev command : Command
      command = record { guest = number; queue = queue; entry = bytes_from mine addr sqe_size; leader = tag }

      abbrev new : Tag
      new = Taken command []

      abbrev fetched : World
      fetched = with_controller number (took p.controller queue) w

      abbrev taken_world : World
      taken_world = with_tags lane (tag ∷ rest) new fetched

      taken_world-is : taken_to addr queue lane (tag ∷ rest) o w ≡ taken_world
      unfolding taken_to
      taken_world-is = refl

      was-free : (b : ℕ) → touched (tag ∷ rest) b ≡ true → tag_of w lane b ≡ Some Free
      was-free b among = (let u = all-touched (HasTag IsFree w lane) (tag ∷ rest) b free among in u.is ∙ ap (λ x. Some x) u.has)

      now-taken : (b : ℕ) → touched (tag ∷ rest) b ≡ true → tag_of taken_world lane b ≡ Some new
      now-taken b among = with_tags-here lane (tag ∷ rest) new fetched b Free among (was-free b among)

      there : tag_of w lane tag ≡ Some Free
      there = was-free tag (first-touched tag rest)

      only : taken_world ≡ record fetched { lanes = taken_world.lanes }
      only = with_tags-rest lane (tag ∷ rest) new fetched

      retold : IsRetold geometry number guest lane tag (touched (tag ∷ rest)) w taken_world
      retold =
          record {
            tags = (λ a b away. with_tags-away lane (tag ∷ rest) new fetched a b away);
            held = (λ a b away. ap (λ (z : World). device_of z a b) only);
            before = (λ b other among apart. ap (led other) (was-free b among));
            behind = (λ b other among apart. ap (led other) (now-taken b among) ∙ ne_eqb tag other (λ same. apart (sym same)));
            bytes = (λ a b t x away own bytes. sym (ap (λ (z : World). z.host x) only));
            memory = sym (ap (λ (z : World). image (regions_of guest) z.host) only);
            disk = ap (λ (z : World). z.disk) only;
            kept = ap (λ (z : World). z.kept) only;
          }

      controller-behind : slice_get taken_world.controllers number ≡ Some (took p.controller queue)
      controller-behind =
          ap (λ (z : World). slice_get z.controllers number) only
          ∙ slice_get-set w.controllers number p.controller (took p.controller queue) related.controller

      abbrev behind : List ℕ → Private
      behind entry = record p { controller = took p.controller queue; bag = put p.bag name (Some (member entry)) }

      here : (number == number) ≡ true
      here = eq-eqb number number refl

      taken-related : Related geometry number guest taken_world (behind (bytes_from mine addr sqe_size))
      taken-related =
          retag-related geometry number guest w taken_world reached.consistent lane tag (touched (tag ∷ rest))
          (tag-below host_bytes geometry number guest given w reached p related lane tag Free there) retold p related
          (Some (member (bytes_from mine addr sqe_size))) (took p.controller queue) controller-behind
          (λ b x among none. hides-nothing number (tag_of w lane b) Free (own_held number (tag_of w lane b) (device_of w lane b)) x (was-free b among) refl)
          (sym (ap (λ y. member_in y tag number (rests_of geometry taken_world lane tag)) (now-taken tag (first-touched tag rest))
          ∙ member-mine tag number command Unjudged (eq-eqb tag tag refl) here))
          (λ b among.
          own-as number (tag_of taken_world lane b) new
          (λ y. IsTagRelated y guest (own_held number (tag_of taken_world lane b) (device_of taken_world lane b)) (status_in geometry taken_world lane)
          (bounce_page geometry.mediator lane b) taken_world.host p.memory)
          (now-taken b among) here (no-reads guest (bytes_from mine addr sqe_size) taken_world.host))

      may : may_take queue name p ≡ true
      may =
          let both = and-true (nat_le 1 queue) (nat_le queue last_queue) io in
          let some = leb-true 1 queue both.0 in
          ap (λ b. b && is_none (p.bag name)) (lt-ltb 0 queue (omega (arith, some)))
          ∙ ap is_none (bag-is host_bytes geometry number guest given w reached p related lane tag Free there)

      taken-made : private_step (shape_of guest) (TakeStep queue name) p ≡ unseen (behind (bytes_from mine addr sqe_size))
      unfolding private_step
      taken-made =
          ap (λ b. cond b (taken_at (front p.controller queue) queue name p) None) may ∙ ap (λ f. taken_at f queue name p) found
          ∙ ap (λ entry. unseen (behind entry)) (entry-same addr found)

      taken-goes : (later : List ℕ) → numbers_where is_free l.tags ≡ tag ∷ later
          → GoesAlong geometry number guest (event.Take number queue lane) w p (replied reply.Done (taken_to addr queue lane (tag ∷ rest) o w))
      taken-goes later lowest_is =
          subst (λ z. GoesAlong geometry number guest (event.Take number queue lane) w p (replied reply.Done z)) (sym taken_world-is)
          (one-goes geometry number guest (event.Take number queue lane) w taken_world p (behind (bytes_from mine addr sqe_size)) (TakeStep queue name) refl
          (ap (λ b. cond b (takes (slice_get w.lanes lane) queue lane) []) here ∙ ap (λ x. takes x queue lane) at
          ∙ ap (λ x. taken_as x queue lane) (numbers-are is_free l.tags ∙ lowest_is))
          taken-made taken-related)

    -- ---- the event

    abbrev Goes : After → Type 0
    Goes = GoesAlong geometry number guest (event.Take number queue lane) w p

    -- the lowest free tags, where as many are free
    claimed-goes : (l : Lane) → slice_get w.lanes lane ≡ Some l → is_io_queue queue ≡ true → (addr : ℕ) → front p.controller queue ≡ Some addr
        → (count : ℕ) → 1 ≤ count → count ≤ length (numbers_where is_free l.tags)
        → Goes (replied reply.Done (taken_to addr queue lane (take count (numbers_where is_free l.tags)) o w))
    claimed-goes l at io addr found zero some many = absurd (omega (arith, some))
    claimed-goes l at io addr found (suc count) some many =
        by (numbers_where is_free l.tags) refl many (claimed-free w lane l (suc count) at)
      where
        by : (free : List ℕ) → numbers_where is_free l.tags ≡ free → suc count ≤ length free → All (HasTag IsFree w lane) (take (suc count) free)
            → Goes (replied reply.Done (taken_to addr queue lane (take (suc count) free) o w))
        by [] same many each = absurd (omega (arith, many))
        by (tag ∷ later) same many each = taken-goes l at io addr found tag (take count later) each later same

    tags-go : (l : Lane) → slice_get w.lanes lane ≡ Some l → is_io_queue queue ≡ true → (addr : ℕ) → front p.controller queue ≡ Some addr
        → (tags : Option (List ℕ)) → claimed (tags_of_entry guest.namespace (entry_at addr o w)) l.tags ≡ tags → Goes (take_tags tags addr queue lane o w)
    tags-go l at io addr found None lowest_are = dull-goes geometry number guest (event.Take number queue lane) w p refl related reply.Busy refl
    tags-go l at io addr found (Some tags) lowest_are =
        let wanted : ℕ = tags_of_entry guest.namespace (entry_at addr o w) in
        let c = claimed-is wanted l.tags tags lowest_are in
        let some = (tags_of_entry-some guest.namespace (entry_at addr o w) (reached.laid.given number guest given).some).0 in
        subst (λ ks. Goes (replied reply.Done (taken_to addr queue lane ks o w))) (sym c.is)
        (claimed-goes l at io addr found wanted (omega (arith, some)) c.many)

    front-goes : (l : Lane) → slice_get w.lanes lane ≡ Some l → is_io_queue queue ≡ true → (addr : Option ℕ) → front p.controller queue ≡ addr
        → Goes (take_front addr queue lane l o w)
    front-goes l at io None found = dull-goes geometry number guest (event.Take number queue lane) w p refl related reply.Idle refl
    front-goes l at io (Some addr) found = tags-go l at io addr found (claimed (tags_of_entry guest.namespace (entry_at addr o w)) l.tags) refl

    pub takes-go : Goes (step geometry (event.Take number queue lane) w)
    unfolding step
    takes-go =
        let dull = dull-goes geometry number guest (event.Take number queue lane) w p refl related in
        guest-way Goes w dull (owner_of geometry w number) _ (λ x is.
        subst (λ (y : Owner). Goes (for_one (slice_get w.lanes lane) w (λ l. take_from queue lane l y w)))
        (some-same o x (sym (owner-there geometry number guest w p.controller given related.controller) ∙ is))
        (lane-way Goes w dull (slice_get w.lanes lane) (λ l. take_from queue lane l o w) (λ l at.
        either-way Goes w dull (is_io_queue queue) _ _ (λ io. front-goes l at io (front p.controller queue) refl) (λ out. dull reply.Ignored refl))))
