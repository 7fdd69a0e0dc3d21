-- A lane of which no guest has more than its share has tags for a command of a guest whose share has room.
use Rattle.std.proofs.Common.{◌≡◌, refl, ap, ◌∙◌, subst, ℕ, zero, suc, ◌+◌, ◌<◌, ◌≤◌, ◌==◌, nat_le, not, ◌&&◌, cond, Bool, true, false, arith}
use Rattle.std.proofs.Common.{List, [], ◌∷◌, length, slice_get, take, Option, Some, None, is_some}
use Rattle.std.proofs.lemmas.Bool.{le-leb, leb-true}
use Rattle.std.proofs.lemmas.Bool.Decides.{nat_tests}
use Rattle.std.proofs.lemmas.Option.{none-some}
use Rattle.std.proofs.lemmas.List.Sums.{sum_by-cons}
use Rattle.std.specs.List.{count_by, sum}
use Rattle.nv_core.proofs.HeldTags.{count-cons, numbers-count}
use Rattle.nv_core.specs.Front.{IsBeside}
use Rattle.nv_core.specs.Held.{held_in, is_of}
use Rattle.nv_core.specs.Noted.{has_front}
use Rattle.nv_host.proofs.Accepted.{lies-out}
use Rattle.nv_host.proofs.Rests.{placed, placed-due}
use Rattle.nv_host.specs.Served.{IsServed, Served, has_share, is_closed}
use Rattle.nv_host.specs.Shares.{is_within, most_needed, needed_in_all}
use Rattle.nv_host.specs.Sharing.{AreWithin, HasRoom}
use Rattle.nv_host.specs.Work.{IsWork, Scene, scene}
use Rattle.nv_host.specs.declared.worked.Scope.TheVariants as scope
use Rattle.nv_laws_sound.proofs.Lists.{slice_get-below, slice_get-there, some-same}
use Rattle.nv_laws_sound.specs.Kept.{IsKeptTag}
use Rattle.nv_model.specs.Controller.{Controller, front}
use Rattle.nv_world_model.proofs.TagCounts.{tags_of_entry-some}
use Rattle.nv_world_model.specs.Due.{due}
use Rattle.nv_world_model.specs.Geometry.{Geometry, Guest}
use Rattle.nv_world_model.specs.Seat.{Owner, owner_by}
use Rattle.nv_world_model.specs.Share.{tags_of_entry}
use Rattle.nv_world_model.specs.Step.{entry_at, for_one, is_done, is_io_queue, replied, step, take_from, take_front, take_tags}
use Rattle.nv_world_model.specs.World.{Ended, Flying, Free, Lane, Tag, Taken, World, claimed, is_free, tags_where}
use Rattle.nv_world_model.specs.declared.event.Event.TheVariants as event
use Rattle.nv_model.specs.declared.reply.Reply.TheVariants as reply

-- ---- tags by their guests

-- whether a tag is one of a command of a guest from that number on
abbrev is_from : (number : ℕ) → Tag → Bool
is_from number Free = false
is_from number (Taken command reads) = nat_le number command.guest
is_from number (Flying command share at) = nat_le number command.guest
is_from number (Ended command st share) = nat_le number command.guest

number-split : (number guest : ℕ) → cond (nat_le number guest) 1 0 ≡ cond (guest == number) 1 0 + cond (nat_le (suc number) guest) 1 0
number-split number guest = grind (arith, nat_tests)

split-one : (number : ℕ) (t : Tag) → cond (is_from number t) 1 0 ≡ cond (is_of number t) 1 0 + cond (is_from (suc number) t) 1 0
split-one number Free = refl
split-one number (Taken command reads) = number-split number command.guest
split-one number (Flying command share at) = number-split number command.guest
split-one number (Ended command st share) = number-split number command.guest

-- those of one guest, and of the guests after it
split-all : (number : ℕ) (tags : List Tag) → count_by (is_from number) tags ≡ count_by (is_of number) tags + count_by (is_from (suc number)) tags
split-all number [] = refl
split-all number (t ∷ tags) =
    (let one = split-one number t in
    let rest = split-all number tags in
    let from = count-cons (is_from number) t tags in
    let of = count-cons (is_of number) t tags in
    let past = count-cons (is_from (suc number)) t tags in
    omega (arith, one, rest, from, of, past))

free-or : (t : Tag) → cond (is_free t) 1 0 + cond (is_from 0 t) 1 0 ≡ 1
free-or Free = refl
free-or (Taken command reads) = grind (arith, nat_tests)
free-or (Flying command share at) = grind (arith, nat_tests)
free-or (Ended command st share) = grind (arith, nat_tests)

-- each tag is free or somebody's
free-used : (tags : List Tag) → count_by is_free tags + count_by (is_from 0) tags ≡ length tags
free-used [] = refl
free-used (t ∷ tags) =
    (let one = free-or t in
    let rest = free-used tags in
    let free = count-cons is_free t tags in
    let used = count-cons (is_from 0) t tags in
    omega (arith, one, rest, free, used))

-- nobody's from a number on
none-from : (number : ℕ) (tags : List Tag) → ((i : ℕ) (t : Tag) → slice_get tags i ≡ Some t → is_from number t ≡ false) → count_by (is_from number) tags ≡ 0
none-from number [] each = refl
none-from number (t ∷ tags) each =
    (let rest = none-from number tags (λ i u at. each (suc i) u at) in
    let one = count-cons (is_from number) t tags ∙ ap (λ (b : Bool). cond b 1 0 + count_by (is_from number) tags) (each 0 t refl) in
    omega (arith, one, rest))

-- ---- as many as the shares

module _ (tags : List Tag) where
  -- the guests from a number on, which have these, have no more than their shares
  abbrev AreBounded : (number : ℕ) → List Guest → List ℕ → Type 0
  AreBounded number guests spare =
      (i : ℕ) (given : Guest) (n : ℕ) → slice_get guests i ≡ Some given → slice_get spare i ≡ Some n → count_by (is_of (i + number)) tags ≤ most_needed given + n

  next-bounded : (number : ℕ) (g : Guest) (guests : List Guest) (n : ℕ) (spare : List ℕ) → AreBounded number (g ∷ guests) (n ∷ spare)
      → AreBounded (suc number) guests spare
  next-bounded number g guests n spare each i given m at there =
      (let same : suc i + number ≡ i + suc number = omega arith in
      subst (λ (k : ℕ). count_by (is_of k) tags ≤ most_needed given + m) same (each (suc i) given m at there))

  pub all-few : (guests : List Guest) (spare : List ℕ) (number : ℕ) → length spare ≡ length guests → AreBounded number guests spare
      → count_by (is_from (length guests + number)) tags ≡ 0 → count_by (is_from number) tags ≤ needed_in_all guests + sum spare
  all-few [] spare number long each none =
      (let here : 0 + number ≡ number = omega arith in let zero_of = subst (λ (k : ℕ). count_by (is_from k) tags ≡ 0) here none in omega (arith, zero_of))
  all-few (g ∷ guests) [] number long each none = absurd (omega arith)
  all-few (g ∷ guests) (n ∷ spare) number long each none =
      (let own = each 0 g n refl refl in
      let here : 0 + number ≡ number = omega arith in
      let first = subst (λ (k : ℕ). count_by (is_of k) tags ≤ most_needed g + n) here own in
      let end : length (g ∷ guests) + number ≡ length guests + suc number = omega arith in
      let rest = all-few guests spare (suc number) (omega arith) (next-bounded number g guests n spare each)
      (subst (λ (k : ℕ). count_by (is_from k) tags ≡ 0) end none) in
      let both = split-all number tags in
      let needed = sum_by-cons most_needed g guests in
      let spared = sum_by-cons (λ (k : ℕ). k) n spare in
      omega (arith, first, rest, both, needed, spared))

  -- and where one has so few that it may have a command's more, together they leave so many
  pub one-fewer : (guests : List Guest) (spare : List ℕ) (number at : ℕ) (given : Guest) (n : ℕ) → length spare ≡ length guests
      → AreBounded number guests spare → count_by (is_from (length guests + number)) tags ≡ 0 → slice_get guests at ≡ Some given → slice_get spare at ≡ Some n
      → count_by (is_of (at + number)) tags ≤ n → count_by (is_from number) tags + most_needed given ≤ needed_in_all guests + sum spare
  one-fewer [] spare number at given n long each none there has few = absurd (none-some given there)
  one-fewer (g ∷ guests) [] number at given n long each none there has few = absurd (omega arith)
  one-fewer (g ∷ guests) (m ∷ spare) number zero given n long each none there has few =
      (let same : length g.namespace ≡ length given.namespace = ap (λ (x : Guest). length x.namespace) (some-same g given there) in
      let count : m ≡ n = some-same m n has in
      let here : 0 + number ≡ number = omega arith in
      let first = subst (λ (k : ℕ). count_by (is_of k) tags ≤ n) here few in
      let end : length (g ∷ guests) + number ≡ length guests + suc number = omega arith in
      let rest = all-few guests spare (suc number) (omega arith) (next-bounded number g guests m spare each)
      (subst (λ (k : ℕ). count_by (is_from k) tags ≡ 0) end none) in
      let both = split-all number tags in
      let needed = sum_by-cons most_needed g guests in
      let spared = sum_by-cons (λ (k : ℕ). k) m spare in
      omega (arith, same, count, first, rest, both, needed, spared))
  one-fewer (g ∷ guests) (m ∷ spare) number (suc at) given n long each none there has few =
      (let own = each 0 g m refl refl in
      let here : 0 + number ≡ number = omega arith in
      let first = subst (λ (k : ℕ). count_by (is_of k) tags ≤ most_needed g + m) here own in
      let end : length (g ∷ guests) + number ≡ length guests + suc number = omega arith in
      let place : suc at + number ≡ at + suc number = omega arith in
      let rest = one-fewer guests spare (suc number) at given n (omega arith) (next-bounded number g guests m spare each)
      (subst (λ (k : ℕ). count_by (is_from k) tags ≡ 0) end none) there has
      (subst (λ (k : ℕ). count_by (is_of k) tags ≤ n) place few) in
      let both = split-all number tags in
      let needed = sum_by-cons most_needed g guests in
      let spared = sum_by-cons (λ (k : ℕ). k) m spare in
      omega (arith, first, rest, both, needed, spared))

-- ---- a Take that may be made

-- as many tags are claimed as are free
claims : (count : ℕ) (tags : List Tag) → count ≤ count_by is_free tags → is_some (claimed count tags) ≡ true
unfolding claimed
claims count tags enough =
    (let many = numbers-count is_free 0 tags in
    ap (λ (b : Bool). is_some (cond b (Some (take count (tags_where is_free tags))) None))
    (le-leb count (length (tags_where is_free tags)) (omega (arith, many, enough))))

module _ (geometry : Geometry) (w : World) (guest queue lane : ℕ) (given : Guest) (c : Controller) (l : Lane) (addr : ℕ)
    (there : slice_get geometry.guests guest ≡ Some given) (at : slice_get w.controllers guest ≡ Some c) (on : slice_get w.lanes lane ≡ Some l)
    (io : is_io_queue queue ≡ true) (waits : front c queue ≡ Some addr) where
  abbrev seat : Owner
  seat = record { number = guest; given = given; controller = c }

  abbrev wanted : ℕ
  wanted = tags_of_entry given.namespace (entry_at addr seat w)

  done-some : (o : Option (List ℕ)) → is_some o ≡ true → is_done (take_tags o addr queue lane seat w).reply ≡ true
  done-some None some = cc
  done-some (Some tags) some = refl

  take-is_due : is_some (claimed wanted l.tags) ≡ true → due geometry (event.Take guest queue lane) w ≡ true
  unfolding due step
  take-is_due some =
      ap (λ (x : Option Guest). is_done (for_one (owner_by guest x (slice_get w.controllers guest)) w (λ o. for_one (slice_get w.lanes lane) w (λ l. take_from queue lane l o w))).reply) there
      ∙ ap (λ (y : Option Controller). is_done (for_one (owner_by guest (Some given) y) w (λ o. for_one (slice_get w.lanes lane) w (λ l. take_from queue lane l o w))).reply) at
      ∙ ap (λ (z : Option Lane). is_done (for_one z w (λ l. take_from queue lane l seat w)).reply) on
      ∙ ap (λ (b : Bool). is_done (cond b (take_front (front c queue) queue lane l seat w) (replied reply.Ignored w)).reply) io
      ∙ ap (λ (f : Option ℕ). is_done (take_front f queue lane l seat w).reply) waits
      ∙ done-some (claimed wanted l.tags) some

-- ---- in a scene

some-front : (queue : ℕ) (o : Option Controller) → has_front queue o ≡ true → (c : Controller) × (o ≡ Some c) × (is_some (front c queue) ≡ true)
some-front queue None has = cc
some-front queue (Some c) has = (c, refl, has)

some-of : {X : Type 0} (o : Option X) → is_some o ≡ true → (x : X) × (o ≡ Some x)
some-of None some = cc
some-of (Some x) some = (x, refl)

some-spare : (held : ℕ) (o : Option ℕ) → is_within held o ≡ true → (n : ℕ) × (o ≡ Some n) × (held ≤ n)
some-spare held None fits = cc
some-spare held (Some n) fits = (n, refl, leb-true held n fits)

-- a tag of a guest is of one that is there
tag-below : (geometry : Geometry) (t : Tag) → IsKeptTag geometry t → is_from (length geometry.guests) t ≡ false
tag-below geometry Free is = refl
tag-below geometry (Taken command reads) is = (let below = slice_get-below geometry.guests command.guest is.guest is.is.given in grind (arith, nat_tests, below))
tag-below geometry (Flying command share at) is = (let below = slice_get-below geometry.guests command.guest is.guest is.is.given in grind (arith, nat_tests, below))
tag-below geometry (Ended command st share) is = (let below = slice_get-below geometry.guests command.guest is.guest is.is.given in grind (arith, nat_tests, below))

module _ (h : Served) (memory : List ℕ) (guest queue lane : ℕ) (is : IsServed h) (within : AreWithin lane h) (room : HasRoom guest queue lane h) where
  abbrev geometry : Geometry
  geometry = h.setup.geometry

  abbrev guests : List Guest
  guests = geometry.guests

  lane-there : (l : Lane) × (slice_get h.side.lanes lane ≡ Some l)
  lane-there = (let below = room.there in let many = is.lanes in slice_get-there h.side.lanes lane (omega (arith, below, many)))

  abbrev l : Lane
  l = lane-there.0

  on : slice_get h.side.lanes lane ≡ Some l
  on = lane-there.1

  spares : (n : ℕ) × (slice_get h.spare guest ≡ Some n) × (held_in guest (slice_get h.side.lanes lane) ≤ n)
  spares = some-spare (held_in guest (slice_get h.side.lanes lane)) (slice_get h.spare guest) room.room

  given-there : (given : Guest) × (slice_get guests guest ≡ Some given)
  given-there =
      (let below = slice_get-below h.spare guest spares.0 spares.1 in
      let many = is.shares.each in
      slice_get-there guests guest (omega (arith, below, many)))

  abbrev given : Guest
  given = given-there.0

  bounded : AreBounded l.tags 0 guests h.spare
  bounded i g n at there =
      (let same : i ≡ i + 0 = omega arith in
      subst (λ (k : ℕ). count_by (is_of k) l.tags ≤ most_needed g + n) same
      (subst (λ (o : Option Lane). held_in i o ≤ most_needed g + n) on (within i g n at there)))

  none-past : count_by (is_from (length guests + 0)) l.tags ≡ 0
  none-past =
      (let end : length guests ≡ length guests + 0 = omega arith in
      subst (λ (k : ℕ). count_by (is_from k) l.tags ≡ 0) end
      (none-from (length guests) l.tags (λ i t at. tag-below geometry t ((is.kept.lanes lane l on).tags i t at))))

  enough : most_needed given ≤ count_by is_free l.tags
  enough =
      (let here : guest ≡ guest + 0 = omega arith in
      let few : held_in guest (Some l) ≤ spares.0 = subst (λ (o : Option Lane). held_in guest o ≤ spares.0) on spares.2 in
      let own : count_by (is_of (guest + 0)) l.tags ≤ spares.0 = subst (λ (k : ℕ). count_by (is_of k) l.tags ≤ spares.0) here few in
      let used = one-fewer l.tags guests h.spare 0 guest given spares.0 is.shares.each bounded none-past given-there.1 spares.1 own in
      let all = free-used l.tags in
      let many = (is.kept.lanes lane l on).tags_are in
      let most = is.shares.enough in
      omega (arith, used, all, many, most))

  is_due : (w : World) → IsBeside h.side memory w → due geometry (event.Take guest queue lane) w ≡ true
  is_due w beside =
      (let s : Scene = scene h memory in
      let v : World = placed s w in
      let f = some-front queue (slice_get h.side.controllers guest) room.waits in
      let at : slice_get v.controllers guest ≡ Some f.0 = ap (λ (cs : List Controller). slice_get cs guest) beside.controllers ∙ f.1 in
      let addr = some-of (front f.0 queue) f.2 in
      let few = tags_of_entry-some given.namespace (entry_at addr.0 (seat geometry v guest queue lane given f.0 l addr.0 given-there.1 at on room.io addr.1) v) (needs-some) in
      let fits = enough in
      placed-due s w (event.Take guest queue lane) tt beside
      ∙ take-is_due geometry v guest queue lane given f.0 l addr.0 given-there.1 at on room.io addr.1
      (claims _ l.tags (let least = few.1 in omega (arith, least, fits))))
    where
      needs-some : 0 < length given.namespace
      needs-some = ((lies-out h.setup is.accepted is.sound).given guest given given-there.1).some

  pub room-is_work : IsWork (scope.Guest guest) (scene h memory) (event.Take guest queue lane)
  room-is_work =
      record {
        own = refl;
        due_now = λ w beside. (allowed, is_due w beside);
      }
    where
      allowed : (not (is_closed h lane) && has_share h guest lane) ≡ true
      allowed = ap (λ (b : Bool). not b && has_share h guest lane) room.is_open ∙ room.room
