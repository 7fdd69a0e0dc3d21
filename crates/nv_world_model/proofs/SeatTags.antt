-- Takes in a guest's seat.
use Rattle.std.proofs.Common.{◌≡◌, ℕ, ◌/◌, ◌%◌, ◌<◌, Bool, true, false, cond, nat_lt, List, [], ◌∷◌, length, slice_get, Option, Some, None, is_none}
use Rattle.std.proofs.Common.{arith, refl, sym, ap, ◌∙◌, subst}
use Rattle.std.proofs.lemmas.Bool.Decides.{nat_tests}
use Rattle.std.proofs.lemmas.Option.{slice_get_within}
use Rattle.nv_model.specs.Controller.{front, took}
use Rattle.nv_model.specs.Memory.{bytes_from, image}
use Rattle.nv_model.specs.Private.{Private, TakeStep, Unjudged, put, step as private_step}
use Rattle.nv_model.specs.Queue.{sqe_size}
use Rattle.nv_model.specs.declared.reply.Reply.TheVariants as reply
use Rattle.nv_world_model.specs.declared.event.Event.TheVariants as event
use Rattle.nv_world_model.specs.Area.{tag_count}
use Rattle.nv_world_model.specs.Geometry.{Geometry, regions_of, shape_of}
use Rattle.nv_world_model.specs.Laws.{IsSeatOf, LeadsTo}
use Rattle.nv_world_model.specs.Seat.{Owner, Rest, members, member_in, name_of, owner_of, rests_of, seat}
use Rattle.nv_world_model.specs.Share.{tags_of_entry}
use Rattle.nv_world_model.specs.Step.{After, entry_at, for_one, is_io_queue, replied, step, take_from, take_front, take_tags, taken_to}
use Rattle.nv_world_model.specs.World.{Ended, Flying, Free, Lane, Tag, Taken, World, claimed, is_free, tag_of, tags_where, with_tag, with_tags}
use Rattle.nv_world_model.proofs.FreeTags.{free-there}
use Rattle.nv_world_model.proofs.Seats.{IsOwner, owner_of-is, slice_get-set}

-- ---- names

-- a name tells lane and tag
pub name-lane : (lane tag : ℕ) → tag < tag_count → name_of lane tag / tag_count ≡ lane
name-lane lane tag below = omega arith

pub name-tag : (lane tag : ℕ) → tag < tag_count → name_of lane tag % tag_count ≡ tag
name-tag lane tag below = omega arith

-- the guest's command under a tag's name is the tag's
pub members-at : (geometry : Geometry) (w : World) (number lane tag : ℕ) → tag < tag_count
    → members geometry w number (name_of lane tag) ≡ member_in (tag_of w lane tag) tag number (rests_of geometry w lane tag)
unfolding members
members-at geometry w number lane tag below = rw (name-lane lane tag below, name-tag lane tag below) refl

-- ---- tags

-- where tags change, nothing else does
pub with_tags-rest : (lane : ℕ) (tags : List ℕ) (t : Tag) (w : World) → with_tags lane tags t w ≡ record w { lanes = (with_tags lane tags t w).lanes }
unfolding with_tags
with_tags-rest lane [] t w = refl
with_tags-rest lane (tag ∷ tags) t w = with_tags-rest lane tags t (with_tag lane tag t w)

-- ---- takes

-- a take that is done found a command, and as many tags as it wants
pub record IsTaken (f : Option ℕ) (queue lane : ℕ) (l : Lane) (o : Owner) (w z : World) : Type 0 where
  pub addr : ℕ
  pub tags : List ℕ
  pub front : f ≡ Some addr
  pub lowest : claimed (tags_of_entry o.given.namespace (entry_at addr o w)) l.tags ≡ Some tags
  pub world : z ≡ taken_to addr queue lane tags o w

take_tags-done : (x : Option (List ℕ)) (addr queue lane : ℕ) (o : Owner) (w : World) → (take_tags x addr queue lane o w).reply ≡ reply.Done
    → (tags : List ℕ) × ((x ≡ Some tags) × ((take_tags x addr queue lane o w).world ≡ taken_to addr queue lane tags o w))
take_tags-done None addr queue lane o w e = cc
take_tags-done (Some tags) addr queue lane o w e = (tags, (refl, refl))

take-done : (b : Bool) (f : Option ℕ) (queue lane : ℕ) (l : Lane) (o : Owner) (w : World)
    → (cond b (take_front f queue lane l o w) (replied reply.Ignored w)).reply ≡ reply.Done
    → (b ≡ true) × IsTaken f queue lane l o w (cond b (take_front f queue lane l o w) (replied reply.Ignored w)).world
take-done true None queue lane l o w e = cc
take-done true (Some addr) queue lane l o w e =
    (let found = take_tags-done (claimed (tags_of_entry o.given.namespace (entry_at addr o w)) l.tags) addr queue lane o w e in
    (refl, record { addr = addr; tags = found.0; front = refl; lowest = found.1.0; world = found.1.1 }))
take-done false f queue lane l o w e = cc

-- the event of a guest and a lane that are there
pub take-step : (geometry : Geometry) (number queue lane : ℕ) (o : Owner) (l : Lane) (w : World) → owner_of geometry w number ≡ Some o → slice_get w.lanes lane ≡ Some l
    → step geometry (event.Take number queue lane) w ≡ take_from queue lane l o w
unfolding step
take-step geometry number queue lane o l w e there =
    ap (λ (x : Option Owner). for_one x w (λ p. for_one (slice_get w.lanes lane) w (λ k. take_from queue lane k p w))) e
    ∙ ap (λ (x : Option Lane). for_one x w (λ k. take_from queue lane k o w)) there

pub take-is : (geometry : Geometry) (number queue lane : ℕ) (o : Owner) (l : Lane) (w : World) → owner_of geometry w number ≡ Some o → slice_get w.lanes lane ≡ Some l
    → (step geometry (event.Take number queue lane) w).reply ≡ reply.Done
    → (is_io_queue queue ≡ true) × IsTaken (front o.controller queue) queue lane l o w (step geometry (event.Take number queue lane) w).world
take-is geometry number queue lane o l w e there is_done =
    (let same = take-step geometry number queue lane o l w e there in
    subst (λ (x : After). (is_io_queue queue ≡ true) × IsTaken (front o.controller queue) queue lane l o w x.world) (sym same)
    (take-done (is_io_queue queue) (front o.controller queue) queue lane l o w (subst (λ (x : After). x.reply ≡ reply.Done) same is_done)))

-- a tag that is free names no command
free-none : (t : Tag) (tag number : ℕ) (rests : List Rest) → is_free t ≡ true → is_none (member_in (Some t) tag number rests) ≡ true
free-none Free tag number rests e = refl
free-none (Taken command reads) tag number rests e = cc
free-none (Flying command share standing) tag number rests e = cc
free-none (Ended command st share) tag number rests e = cc

-- the private controller behind the take
behind_take : (geometry : Geometry) (addr queue name : ℕ) (o : Owner) (w : World) → Private
behind_take geometry addr queue name o w =
    record (seat geometry o w) {
      controller = took o.controller queue;
      bag = put (seat geometry o w).bag name (Some (record { queue = queue; entry = bytes_from (image (regions_of o.given) w.host) addr sqe_size; progress = Unjudged }));
    }

private-take : (geometry : Geometry) (addr queue name : ℕ) (o : Owner) (w : World) → nat_lt 0 queue ≡ true → is_none (members geometry w o.number name) ≡ true
    → front o.controller queue ≡ Some addr
    → private_step (shape_of o.given) (TakeStep queue name) (seat geometry o w) ≡ Some (record { state = behind_take geometry addr queue name o w; seen = None })
unfolding private_step seat behind_take
private-take geometry addr queue name o w io unnamed there = rw (io, unnamed, there)

seat-taken : (geometry : Geometry) (addr queue lane name : ℕ) (tags : List ℕ) (o : Owner) (w : World) → IsOwner geometry w o
    → IsSeatOf o.number o.given (taken_to addr queue lane tags o w) (behind_take geometry addr queue name o w)
unfolding seat taken_to behind_take
seat-taken geometry addr queue lane name tags o w is =
    (let rest = with_tags-rest lane tags _ _ in
    subst (λ z. IsSeatOf o.number o.given z (behind_take geometry addr queue name o w)) (sym rest)
    (record {
      controller = slice_get-set w.controllers o.number o.controller (took o.controller queue) is.controller;
      memory = (λ at there. refl);
      blocks = (λ lba offset. refl);
      marks = (λ lba. refl);
    }))

tag_of-lane : (w : World) (lane tag : ℕ) (l : Lane) → slice_get w.lanes lane ≡ Some l → tag_of w lane tag ≡ slice_get l.tags tag
tag_of-lane w lane tag l there = rw there

io-queue : (queue : ℕ) → is_io_queue queue ≡ true → nat_lt 0 queue ≡ true
io-queue queue is = grind (arith, nat_tests)

pub take-leads : (geometry : Geometry) (number queue lane tag : ℕ) (more : List ℕ) (o : Owner) (l : Lane) (w : World) → owner_of geometry w number ≡ Some o
    → slice_get w.lanes lane ≡ Some l → length l.tags ≡ tag_count → tags_where is_free l.tags ≡ tag ∷ more
    → (step geometry (event.Take number queue lane) w).reply ≡ reply.Done
    → LeadsTo geometry o (TakeStep queue (name_of lane tag)) w (step geometry (event.Take number queue lane) w).world
take-leads geometry number queue lane tag more o l w e there count free is_done =
    (let taken = take-is geometry number queue lane o l w e there is_done in
    let t = free-there l.tags 0 tag (ap (λ (ns : List ℕ). slice_get ns 0) free) in
    let below : tag < tag_count = subst (λ n. tag < n) count (slice_get_within l.tags tag t.0 t.1) in
    let named = members-at geometry w o.number lane tag below
    ∙ ap (λ x. member_in x tag o.number (rests_of geometry w lane tag)) (tag_of-lane w lane tag l there ∙ t.1) in
    let unnamed = ap (λ m. is_none m) named ∙ free-none t.0 tag o.number (rests_of geometry w lane tag) t.2 in
    subst (λ z. LeadsTo geometry o (TakeStep queue (name_of lane tag)) w z) (sym taken.1.world)
    (record {
      after = record { state = behind_take geometry taken.1.addr queue (name_of lane tag) o w; seen = None };
      made = private-take geometry taken.1.addr queue (name_of lane tag) o w (io-queue queue taken.0) unnamed taken.1.front;
      there = seat-taken geometry taken.1.addr queue lane (name_of lane tag) taken.1.tags o w (owner_of-is geometry w number o e);
    }))
