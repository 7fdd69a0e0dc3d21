-- What is done in a guest's seat, put back into the world: host and controller are as it leaves them, and the rest is as before.
use Rattle.std.proofs.Common.{◌≡◌, ℕ, ◌+◌, ◌<◌, ◌≤◌, Bool, true, false, cond, List, get_or, length, set, slice_get, Option, Some, None, is_some, inl, inr, arith, refl, sym, ap, ◌∙◌, subst}
use Rattle.std.proofs.lemmas.Bool.Decides.{nat_tests}
use Rattle.std.proofs.lemmas.Option.{slice_get_read, slice_get_within}
use Rattle.std.specs.Prelude.{nat_le}
use Rattle.nv_admin.specs.Event.{controller_behind, host_behind, reply_of}
use Rattle.nv_core.specs.Seat.{IsActed, IsActedAs, IsLoaded, seated, told_by}
use Rattle.nv_core.proofs.KeptStates.{IsKeptOf}
use Rattle.nv_core.specs.State.{IsOf, IsSameSize, IsStep, State, world_of}
use Rattle.nv_laws_sound.proofs.Lists.{set-same, slice_get-there}
use Rattle.nv_mem.specs.GuestMap.{IsSound, Mapping, all_mapped, everywhere, mapped}
use Rattle.nv_model.proofs.PutImages.{put_image-own}
use Rattle.nv_model.specs.Admin.{AdminStep, NothingToDo, QueueFull, Stepped, admin}
use Rattle.nv_model.specs.Controller.{Controller}
use Rattle.nv_model.specs.Laws.{QueuesInPlace}
use Rattle.nv_model.specs.Memory.{byte_in, bytes_from, image, put_image, stored}
use Rattle.nv_model.specs.Private.{Acted, Bag, Private, acted, controlled, marked, register_replied, replied as done_as}
use Rattle.nv_model.specs.declared.act.Act.{Act}
use Rattle.nv_model.specs.declared.act.Act.TheVariants as act
use Rattle.nv_model.specs.declared.reply.Reply.{Reply}
use Rattle.nv_model.specs.declared.reply.Reply.TheVariants as reply
use Rattle.nv_disk.proofs.MoveLemmas.{marked-set}
use Rattle.nv_vctl.specs.Vctl.{or_unchanged}
use Rattle.nv_world_model.proofs.SeatSteps.{IsPlain, Changed, NotDone, NotThere, Shown, act-plain, guest-step}
use Rattle.nv_world_model.specs.declared.event.Event.TheVariants as event
use Rattle.nv_world_model.specs.Geometry.{Geometry, Guest, regions_of, shape_of}
use Rattle.nv_world_model.specs.Seat.{Owner, owner_by, owner_of, put_back, seat}
use Rattle.nv_world_model.specs.Step.{After, acted_by, administered_by, administered_in, for_one, kept_block, replied, step}
use Rattle.nv_world_model.specs.World.{World, with_controller, with_host}

-- ---- worlds

-- host and controller of a guest put into a world
abbrev pub placed : (number : ℕ) → (host : ℕ → ℕ) → Controller → World → World
placed number host c w = with_controller number c (with_host host w)

-- as they are in it
pub placed-same : (number : ℕ) (host : ℕ → ℕ) (c : Controller) (w : World) → slice_get w.controllers number ≡ Some c → host ≡ w.host
    → placed number host c w ≡ w
placed-same number host c w there same =
    ap (λ (h : ℕ → ℕ). placed number h c w) same
    ∙ ap (λ (cs : List Controller). let v : World = record w { controllers = cs } in v) (set-same w.controllers number c there)

-- nothing was done
pub same-size : (s : State) → IsSameSize s s
same-size s = record { host = refl; mediator = refl; blocks = refl }

-- ---- guests

-- a guest that was given nothing is not there
pub no-guest : (geometry : Geometry) (w : World) (number : ℕ) (more : Owner → After) → slice_get geometry.guests number ≡ None
    → for_one (owner_of geometry w number) w more ≡ replied reply.Ignored w
no-guest geometry w number more none =
    ap (λ (g : Option Guest). for_one (owner_by number g (slice_get w.controllers number)) w more) none

-- nor one without a controller
pub no-controller : (geometry : Geometry) (w : World) (number : ℕ) (guest : Guest) (more : Owner → After)
    → slice_get geometry.guests number ≡ Some guest → slice_get w.controllers number ≡ None
    → for_one (owner_of geometry w number) w more ≡ replied reply.Ignored w
no-controller geometry w number guest more there none =
    ap (λ (g : Option Guest). for_one (owner_by number g (slice_get w.controllers number)) w more) there
    ∙ ap (λ (c : Option Controller). for_one (owner_by number (Some guest) c) w more) none

-- a guest that is there
abbrev pub owner : (number : ℕ) → Guest → Controller → Owner
owner number guest c = record { number = number; given = guest; controller = c }

pub owner-there : (geometry : Geometry) (w : World) (number : ℕ) (guest : Guest) (c : Controller)
    → slice_get geometry.guests number ≡ Some guest → slice_get w.controllers number ≡ Some c
    → owner_of geometry w number ≡ Some (owner number guest c)
owner-there geometry w number guest c there has =
    ap (λ (g : Option Guest). owner_by number g (slice_get w.controllers number)) there
    ∙ ap (λ (k : Option Controller). owner_by number (Some guest) k) has

-- ---- acts

-- a seat that is as it was
placed-as-was : (w : World) (number : ℕ) (guest : Guest) (c c_new : Controller) (p : Private) (host_new : ℕ → ℕ)
    → IsSound guest.memory_map → slice_get w.controllers number ≡ Some c → p.controller ≡ c → p.memory ≡ image (regions_of guest) w.host
    → c_new ≡ p.controller → host_new ≡ put_image (regions_of guest) p.memory w.host
    → placed number host_new c_new w ≡ w
placed-as-was w number guest c c_new p host_new sound has own mem controller host =
    ap (λ (d : Controller). placed number host_new d w) (controller ∙ own)
    ∙ placed-same number host_new c w has
    (host ∙ ap (λ (m : ℕ → ℕ). put_image (regions_of guest) m w.host) mem ∙ put_image-own (regions_of guest) w.host sound.apart)

-- what is put back is host and controller
put-back : (w : World) (number : ℕ) (guest : Guest) (c d : Controller) (p : Private) (memory : ℕ → ℕ)
    → (let a : After = record { world = placed number (put_image (regions_of guest) memory w.host) d w; reply = reply.Done } in a)
    ≡ acted_by (done_as reply.Done (record p { memory = memory; controller = d })) (owner number guest c) w
unfolding put_back
put-back w number guest c d p memory = refl

-- an act's effect, put back
acted-placed : (w : World) (number : ℕ) (guest : Guest) (c c_new : Controller) (p : Private) (x : Acted) (r : Reply) (host_new : ℕ → ℕ)
    → IsSound guest.memory_map → slice_get w.controllers number ≡ Some c → p.controller ≡ c → p.memory ≡ image (regions_of guest) w.host
    → IsPlain p x → IsActedAs (regions_of guest) w.host x r host_new c_new
    → (let a : After = record { world = placed number host_new c_new w; reply = r } in a) ≡ acted_by x (owner number guest c) w
acted-placed w number guest c c_new p x r host_new sound has own mem (Changed memory d) is =
    ap (λ (y : Reply). let a : After = record { world = placed number host_new c_new w; reply = y } in a) is.reply
    ∙ ap (λ (h : ℕ → ℕ). let a : After = record { world = placed number h c_new w; reply = reply.Done } in a) is.host
    ∙ ap (λ (d : Controller). let a : After = record { world = placed number (put_image (regions_of guest) memory w.host) d w; reply = reply.Done } in a) is.controller
    ∙ put-back w number guest c d p memory
acted-placed w number guest c c_new p x r host_new sound has own mem (Shown bytes) is =
    ap (λ (y : Reply). let a : After = record { world = placed number host_new c_new w; reply = y } in a) is.reply
    ∙ ap (λ (v : World). let a : After = record { world = v; reply = reply.Bytes bytes } in a)
    (placed-as-was w number guest c c_new p host_new sound has own mem is.controller is.host)
acted-placed w number guest c c_new p x r host_new sound has own mem NotThere is =
    ap (λ (y : Reply). let a : After = record { world = placed number host_new c_new w; reply = y } in a) is.reply
    ∙ ap (λ (v : World). let a : After = record { world = v; reply = reply.Unmapped } in a)
    (placed-as-was w number guest c c_new p host_new sound has own mem is.controller is.host)
acted-placed w number guest c c_new p x r host_new sound has own mem NotDone is =
    ap (λ (y : Reply). let a : After = record { world = placed number host_new c_new w; reply = y } in a) is.reply
    ∙ ap (λ (v : World). let a : After = record { world = v; reply = reply.Ignored } in a)
    (placed-as-was w number guest c c_new p host_new sound has own mem is.controller is.host)

-- the act of a guest that is there
pub act-step : (geometry : Geometry) (w : World) (number : ℕ) (guest : Guest) (c c_new : Controller) (a : Act) (r : Reply) (host_new : ℕ → ℕ)
    → IsSound guest.memory_map → slice_get geometry.guests number ≡ Some guest → slice_get w.controllers number ≡ Some c
    → IsActed guest a w.host c r host_new c_new
    → (let x : After = record { world = placed number host_new c_new w; reply = r } in x) ≡ step geometry (event.Guest number a) w
unfolding seat
act-step geometry w number guest c c_new a r host_new sound there has is =
    let o = owner number guest c in
    let p = seat geometry o w in
    acted-placed w number guest c c_new p (acted (shape_of guest) a p) r host_new sound has refl refl (act-plain geometry o a w) (is p.disk p.kept p.bag)
    ∙ sym (guest-step geometry number o a w (owner-there geometry w number guest c there has))

-- ---- what the acts come to

module _ (given : Guest) (host : ℕ → ℕ) (c : Controller) where
  own : IsSound given.memory_map → host ≡ put_image (regions_of given) (image (regions_of given) host) host
  own sound = sym (put_image-own (regions_of given) host sound.apart)

  -- a store
  pub store-not : (addr : ℕ) (bytes : List ℕ) → IsSound given.memory_map → everywhere (mapped (regions_of given)) addr (length bytes) ≡ false
      → IsActed given (act.Store addr bytes) host c reply.Unmapped host c
  store-not addr bytes sound e disk kept bag =
      let p = seated given host c disk kept bag in
      subst (λ (b : Bool). IsActedAs (regions_of given) host (cond b (done_as reply.Done (record p { memory = stored p.memory addr bytes })) (done_as reply.Unmapped p)) reply.Unmapped host c)
      (sym e) (record { reply = refl; controller = refl; host = own sound })

  pub store-done : (addr : ℕ) (bytes : List ℕ) (host_new : ℕ → ℕ) → everywhere (mapped (regions_of given)) addr (length bytes) ≡ true
      → host_new ≡ put_image (regions_of given) (stored (image (regions_of given) host) addr bytes) host
      → IsActed given (act.Store addr bytes) host c reply.Done host_new c
  store-done addr bytes host_new e is disk kept bag =
      let p = seated given host c disk kept bag in
      subst (λ (b : Bool). IsActedAs (regions_of given) host (cond b (done_as reply.Done (record p { memory = stored p.memory addr bytes })) (done_as reply.Unmapped p)) reply.Done host_new c)
      (sym e) (record { reply = refl; controller = refl; host = is })

  -- a load
  pub load-not : (addr len : ℕ) → IsSound given.memory_map → everywhere (mapped (regions_of given)) addr len ≡ false
      → IsActed given (act.Load addr len) host c reply.Unmapped host c
  load-not addr len sound e disk kept bag =
      let p = seated given host c disk kept bag in
      subst (λ (b : Bool). IsActedAs (regions_of given) host (cond b (done_as (reply.Bytes (bytes_from p.memory addr len)) p) (done_as reply.Unmapped p)) reply.Unmapped host c)
      (sym e) (record { reply = refl; controller = refl; host = own sound })

  pub load-done : (addr len : ℕ) (bytes : List ℕ) → IsSound given.memory_map → everywhere (mapped (regions_of given)) addr len ≡ true
      → bytes ≡ bytes_from (image (regions_of given) host) addr len
      → IsActed given (act.Load addr len) host c (reply.Bytes bytes) host c
  load-done addr len bytes sound e is disk kept bag =
      let p = seated given host c disk kept bag in
      subst (λ (b : Bool). IsActedAs (regions_of given) host (cond b (done_as (reply.Bytes (bytes_from p.memory addr len)) p) (done_as reply.Unmapped p)) (reply.Bytes bytes) host c)
      (sym e) (record { reply = ap (λ (bs : List ℕ). reply.Bytes bs) is; controller = refl; host = own sound })

  -- a register that is read
  pub register-is : (x : Option ℕ) (r : Reply) → IsSound given.memory_map → (disk : ℕ → ℕ → ℕ) (kept : ℕ → Bool) (bag : Bag)
      → r ≡ (register_replied x (seated given host c disk kept bag)).reply
      → IsActedAs (regions_of given) host (register_replied x (seated given host c disk kept bag)) r host c
  register-is None r sound disk kept bag is = record { reply = is; controller = refl; host = own sound }
  register-is (Some value) r sound disk kept bag is = record { reply = is; controller = refl; host = own sound }

  -- a change of the controller, or one that is ignored
  abbrev pub done_or_ignored : Bool → Reply
  done_or_ignored b = cond b reply.Done reply.Ignored

  pub controlled-is : (x : Option Controller) (taken : Bool) (c_new : Controller) → IsSound given.memory_map → taken ≡ is_some x → c_new ≡ or_unchanged c x
      → (disk : ℕ → ℕ → ℕ) (kept : ℕ → Bool) (bag : Bag)
      → IsActedAs (regions_of given) host (controlled x (seated given host c disk kept bag)) (done_or_ignored taken) host c_new
  controlled-is None taken c_new sound was is disk kept bag = record { reply = ap done_or_ignored was; controller = is; host = own sound }
  controlled-is (Some d) taken c_new sound was is disk kept bag = record { reply = ap done_or_ignored was; controller = is; host = own sound }

-- ---- blocks

pub keep-not : (geometry : Geometry) (w : World) (block : ℕ) → geometry.disk_blocks ≤ block → step geometry (event.Keep block) w ≡ replied reply.Idle w
unfolding step
keep-not geometry w block past =
    let e : nat_le (block + 1) geometry.disk_blocks ≡ false = grind (arith, nat_tests) in
    ap (λ (b : Bool). cond b (replied reply.Done (kept_block block w)) (replied reply.Idle w)) e

pub keep-done : (geometry : Geometry) (w : World) (block : ℕ) → block < geometry.disk_blocks
    → step geometry (event.Keep block) w ≡ replied reply.Done (kept_block block w)
unfolding step
keep-done geometry w block below =
    let e : nat_le (block + 1) geometry.disk_blocks ≡ true = grind (arith, nat_tests) in
    ap (λ (b : Bool). cond b (replied reply.Done (kept_block block w)) (replied reply.Idle w)) e

-- ---- the admin queue

-- what it comes to, put back
admin-placed : (w : World) (number : ℕ) (guest : Guest) (c : Controller) (x : AdminStep) → slice_get w.controllers number ≡ Some c
    → (let a : After = record { world = placed number (host_behind (regions_of guest) w.host x) (controller_behind c x) w; reply = told_by (reply_of x) } in a)
    ≡ administered_by x (owner number guest c) w
unfolding put_back
admin-placed w number guest c NothingToDo has = ap (λ (v : World). let a : After = record { world = v; reply = reply.Idle } in a) (placed-same number w.host c w has refl)
admin-placed w number guest c QueueFull has = ap (λ (v : World). let a : After = record { world = v; reply = reply.Held } in a) (placed-same number w.host c w has refl)
admin-placed w number guest c (Stepped d memory) has = refl

-- the event of the admin queue of a guest that is there
pub admin-there : (geometry : Geometry) (number : ℕ) (o : Owner) (w : World) → owner_of geometry w number ≡ Some o
    → step geometry (event.Admin number) w
    ≡ administered_by (admin (mapped (regions_of o.given)) (shape_of o.given).blocks o.controller (image (regions_of o.given) w.host)) o w
unfolding step administered_in
admin-there geometry number o w e =
    ap (λ (x : Option Owner). for_one x w (λ p. administered_by (admin (mapped (regions_of p.given)) (shape_of p.given).blocks p.controller (image (regions_of p.given) w.host)) p w)) e

-- ---- states

-- what an event of the admin queue of so many blocks comes to, in a map
abbrev pub Does : Mapping → (blocks : ℕ) → (c : Controller) → (host : ℕ → ℕ) → Reply → (c_new : Controller) → (host_new : ℕ → ℕ) → Type 0
Does m blocks c host r c_new host_new =
    (r ≡ told_by (reply_of (admin (mapped m.regions) blocks c (image m.regions host))))
    × ((c_new ≡ controller_behind c (admin (mapped m.regions) blocks c (image m.regions host)))
    × (host_new ≡ host_behind m.regions host (admin (mapped m.regions) blocks c (image m.regions host))))

module _ (geometry : Geometry) (s old : State) (number : ℕ) where
  -- no such guest
  pub act-nobody : (a : Act) → slice_get geometry.guests number ≡ None → IsStep geometry (event.Guest number a) s reply.Ignored s
  unfolding step
  act-nobody a none = record { after = sym (no-guest geometry (world_of s) number _ none); size = same-size s }

  pub admin-nobody : slice_get geometry.guests number ≡ None → IsStep geometry (event.Admin number) s reply.Ignored s
  unfolding step
  admin-nobody none = record { after = sym (no-guest geometry (world_of s) number _ none); size = same-size s }

  -- each guest has a controller
  pub has-controller : (guest : Guest) → length s.controllers ≡ length geometry.guests → slice_get geometry.guests number ≡ Some guest → length s.controllers ≤ number → ⊥
  has-controller guest many there past =
      let below = slice_get_within geometry.guests number guest there in
      omega (arith, below, many, past)

  -- a guest's map was made for the host
  pub made-for : (guest : Guest) (m : Mapping) → s ≡ old → IsKeptOf geometry old → slice_get geometry.guests number ≡ Some guest
      → m ≡ guest.memory_map → m.host_len ≡ length s.host
  made-for guest m same is there same_map =
      let here = subst (λ (o : State). IsKeptOf geometry o) (sym same) is in
      ap (λ (k : Mapping). k.host_len) same_map ∙ (here.laid_out.given number guest there).host

  -- the guest's act
  pub act-done : (i : ℕ) (guest : Guest) (c c_new : Controller) (a : Act) (r : Reply) (host_new : List ℕ)
      → s ≡ old → IsKeptOf geometry old → i ≡ number → i < length s.controllers → c ≡ get_or s.controllers i c
      → slice_get geometry.guests number ≡ Some guest
      → IsActed guest a (byte_in s.host) c r (byte_in host_new) c_new → length host_new ≡ length s.host
      → IsStep geometry (event.Guest number a) old r (record s { host = host_new; controllers = set s.controllers i c_new })
  act-done i guest c c_new a r host_new same is at below has there acts sized =
      subst (λ (o : State). IsStep geometry (event.Guest number a) o r (record s { host = host_new; controllers = set s.controllers i c_new })) same
      (subst (λ (k : ℕ). IsStep geometry (event.Guest number a) s r (record s { host = host_new; controllers = set s.controllers k c_new })) (sym at)
      (record {
        after =
            act-step geometry (world_of s) number guest c c_new a r (byte_in host_new) (is.laid_out.given number guest there).sound there
            (subst (λ (k : ℕ). slice_get s.controllers k ≡ Some c) at (slice_get_read s.controllers (length s.controllers) i c refl below has)) acts;
        size = record { host = sized; mediator = refl; blocks = refl };
      }))

  -- the controller of a guest that is there
  pub controller-of : (guest : Guest) → s ≡ old → IsKeptOf geometry old → slice_get geometry.guests number ≡ Some guest
      → (c : Controller) × (slice_get s.controllers number ≡ Some c)
  controller-of guest same is there =
      let here = subst (λ (o : State). IsKeptOf geometry o) (sym same) is in
      let many = here.kept.controllers in
      let below = slice_get_within geometry.guests number guest there in
      slice_get-there s.controllers number (omega (arith, many, below))

  -- an act that leaves the guest's controller as it is
  pub act-beside : (guest : Guest) (a : Act) (r : Reply) (host_new : List ℕ) → s ≡ old → IsKeptOf geometry old → slice_get geometry.guests number ≡ Some guest
      → ((c : Controller) → IsActed guest a (byte_in s.host) c r (byte_in host_new) c) → length host_new ≡ length s.host
      → IsStep geometry (event.Guest number a) old r (record s { host = host_new })
  act-beside guest a r host_new same is there acts sized =
      let found = controller-of guest same is there in
      subst (λ (o : State). IsStep geometry (event.Guest number a) o r (record s { host = host_new })) same
      (record {
        after =
            ap (λ (cs : List Controller). let x : After = record { world = record (world_of s) { host = byte_in host_new; controllers = cs }; reply = r } in x)
            (sym (set-same s.controllers number found.0 found.1))
            ∙ act-step geometry (world_of s) number guest found.0 found.0 a r (byte_in host_new)
            ((subst (λ (o : State). IsKeptOf geometry o) (sym same) is).laid_out.given number guest there).sound there found.1 (acts found.0);
        size = record { host = sized; mediator = refl; blocks = refl };
      })

  -- an act that leaves the host as it is, too
  pub act-quiet : (guest : Guest) (c : Controller) (a : Act) (r : Reply) → s ≡ old → IsKeptOf geometry old → slice_get geometry.guests number ≡ Some guest
      → slice_get s.controllers number ≡ Some c → IsActed guest a (byte_in s.host) c r (byte_in s.host) c
      → IsStep geometry (event.Guest number a) old r old
  act-quiet guest c a r same is there has acts =
      subst (λ (o : State). IsStep geometry (event.Guest number a) o r o) same
      (record {
        after =
            ap (λ (w : World). let x : After = record { world = w; reply = r } in x) (sym (placed-same number (byte_in s.host) c (world_of s) has refl))
            ∙ act-step geometry (world_of s) number guest c c a r (byte_in s.host)
            ((subst (λ (o : State). IsKeptOf geometry o) (sym same) is).laid_out.given number guest there).sound there has acts;
        size = same-size s;
      })

  pub load-quiet : (guest : Guest) (a : Act) (r : Reply) (before after : List ℕ) → s ≡ old → IsKeptOf geometry old → slice_get geometry.guests number ≡ Some guest
      → ((c : Controller) → IsLoaded (λ x. IsActed guest a (byte_in s.host) c x (byte_in s.host) c) r before after)
      → IsLoaded (λ x. IsStep geometry (event.Guest number a) old x old) r before after
  load-quiet guest a r before after same is there acts =
      let found = controller-of guest same is there in by-case found.0 found.1 (acts found.0)
    where
      by-case : (c : Controller) → slice_get s.controllers number ≡ Some c
          → IsLoaded (λ x. IsActed guest a (byte_in s.host) c x (byte_in s.host) c) r before after
          → IsLoaded (λ x. IsStep geometry (event.Guest number a) old x old) r before after
      by-case c has (inl so) = inl (so.0, act-quiet guest c a (reply.Bytes after) same is there has so.1)
      by-case c has (inr so) = inr (so.0, so.1, act-quiet guest c a r same is there has so.2)

  found-at : (i : ℕ) (c : Controller) → i ≡ number → i < length s.controllers → c ≡ get_or s.controllers i c → slice_get s.controllers number ≡ Some c
  found-at i c at below has =
      subst (λ (k : ℕ). slice_get s.controllers k ≡ Some c) at (slice_get_read s.controllers (length s.controllers) i c refl below has)

  -- the queues of a guest lie in its map
  pub in-place : (i : ℕ) (guest : Guest) (c : Controller) (m : Mapping) → s ≡ old → IsKeptOf geometry old → i ≡ number → i < length s.controllers
      → c ≡ get_or s.controllers i c → slice_get geometry.guests number ≡ Some guest → m ≡ guest.memory_map → QueuesInPlace (mapped m.regions) c
  in-place i guest c m same is at below has there same_map =
      let here = subst (λ (o : State). IsKeptOf geometry o) (sym same) is in
      subst (λ (k : Mapping). QueuesInPlace (mapped k.regions) c) (sym same_map) (here.kept.queues number guest c there (found-at i c at below has))

  -- the event of the guest's admin queue
  pub admin-done : (i : ℕ) (guest : Guest) (c c_new : Controller) (m : Mapping) (blocks : ℕ) (r : Reply) (host_new : List ℕ)
      → s ≡ old → i ≡ number → i < length s.controllers → c ≡ get_or s.controllers i c
      → slice_get geometry.guests number ≡ Some guest → m ≡ guest.memory_map → blocks ≡ (shape_of guest).blocks
      → Does m blocks c (byte_in s.host) r c_new (byte_in host_new) → length host_new ≡ length s.host
      → IsStep geometry (event.Admin number) old r (record s { host = host_new; controllers = set s.controllers i c_new })
  admin-done i guest c c_new m blocks r host_new same at below has there same_map same_blocks at_map sized =
      let w = world_of s in
      let found = found-at i c at below has in
      let does : Does guest.memory_map (shape_of guest).blocks c (byte_in s.host) r c_new (byte_in host_new) =
      subst (λ (k : Mapping). Does k (shape_of guest).blocks c (byte_in s.host) r c_new (byte_in host_new)) same_map
      (subst (λ (b : ℕ). Does m b c (byte_in s.host) r c_new (byte_in host_new)) same_blocks at_map) in
      let x = admin (mapped (regions_of guest)) (shape_of guest).blocks c (image (regions_of guest) w.host) in
      subst (λ (o : State). IsStep geometry (event.Admin number) o r (record s { host = host_new; controllers = set s.controllers i c_new })) same
      (subst (λ (k : ℕ). IsStep geometry (event.Admin number) s r (record s { host = host_new; controllers = set s.controllers k c_new })) (sym at)
      (record {
        after =
            ap (λ (y : Reply). let a : After = record { world = placed number (byte_in host_new) c_new w; reply = y } in a) does.0
            ∙ ap (λ (h : ℕ → ℕ). let a : After = record { world = placed number h c_new w; reply = told_by (reply_of x) } in a) does.1.1
            ∙ ap (λ (d : Controller). let a : After = record { world = placed number (host_behind (regions_of guest) w.host x) d w; reply = told_by (reply_of x) } in a) does.1.0
            ∙ admin-placed w number guest c x found
            ∙ sym (admin-there geometry number (owner number guest c) w (owner-there geometry w number guest c there found));
        size = record { host = sized; mediator = refl; blocks = refl };
      }))

-- a block of the disk is kept
pub keep-marks : (geometry : Geometry) (s old : State) (block : ℕ) → s ≡ old → IsOf geometry old → length s.device.kept ≡ length s.device.disk
    → block < geometry.disk_blocks
    → IsStep geometry (event.Keep block) old reply.Done (record s { device = record s.device { kept = set s.device.kept block true } })
unfolding kept_block
keep-marks geometry s old block same is marked below =
    subst (λ (o : State). IsStep geometry (event.Keep block) o reply.Done (record s { device = record s.device { kept = set s.device.kept block true } })) same
    (record {
      after =
          ap (λ (k : ℕ → Bool). let a : After = record { world = record (world_of s) { kept = k }; reply = reply.Done } in a)
          (marked-set s.device.kept block true there)
          ∙ sym (keep-done geometry (world_of s) block below);
      size = record { host = refl; mediator = refl; blocks = refl };
    })
  where
    there : block < length s.device.kept
    there = (let many = subst (λ (o : State). IsOf geometry o) (sym same) is in let sized = many.blocks in omega arith)

-- what a map's test says of a guest's memory
pub held-is : (m : Mapping) (given : Guest) (addr len n : ℕ) (b v : Bool) → m ≡ given.memory_map → n ≡ len → b ≡ all_mapped m.regions addr n → b ≡ v
    → everywhere (mapped (regions_of given)) addr len ≡ v
held-is m given addr len n b v is sized held e =
    ap (λ (k : ℕ). everywhere (mapped (regions_of given)) addr k) (sym sized)
    ∙ ap (λ (k : Mapping). everywhere (mapped k.regions) addr n) (sym is) ∙ sym held ∙ e
