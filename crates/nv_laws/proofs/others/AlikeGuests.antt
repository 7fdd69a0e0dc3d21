-- A guest's acts, admin steps, takes and reads of lists, and commands that are given up, in worlds that look alike to it: they look alike behind them.
use Rattle.std.proofs.Common.{◌≡◌, ℕ, Bool, true, false, cond, ◌&&◌, nat_le, List, [], ◌∷◌, ◌++◌, length, map, slice_get, take}
use Rattle.std.proofs.Common.{Option, Some, None, refl, sym, ap, ◌∙◌, eq-eqb, subst}
use Rattle.std.specs.List.{All, list_any}
use Rattle.std.specs.Option.{option_map}
use Rattle.std.proofs.lemmas.List.Elements.{All-weaker}
use Rattle.std.proofs.lemmas.Option.{slice_get-map}
use Rattle.nv_entry.specs.Status.{StatusField}
use Rattle.nv_entry.specs.StatusCode.{done_with}
use Rattle.nv_entry.specs.declared.status_code.StatusCode.TheVariants.{InternalError}
use Rattle.nv_mem.specs.GuestMap.{all_mapped, everywhere, guest_of}
use Rattle.nv_mem.specs.declared.region.Region.{Region}
use Rattle.nv_model.specs.Admin.{AdminStep, NothingToDo, QueueFull, Stepped, admin}
use Rattle.nv_model.specs.Controller.{Controller, doorbell, front, reg_read, reg_write, took}
use Rattle.nv_model.specs.Limits.{part_size}
use Rattle.nv_model.specs.Memory.{byte_or, bytes_from, image, put_image, stored}
use Rattle.nv_model.specs.Private.{Acted, Private, Shape, acted, controlled, register_replied}
use Rattle.nv_model.specs.Transcript.{ReadDone}
use Rattle.nv_model.specs.declared.act.Act.{Act}
use Rattle.nv_model.specs.declared.act.Act.TheVariants as act
use Rattle.nv_model.specs.declared.reply.Reply.{Reply}
use Rattle.nv_model.specs.declared.reply.Reply.TheVariants as reply
use Rattle.nv_world_model.specs.Device.{DeviceLane}
use Rattle.nv_world_model.specs.Share.{tags_of_entry}
use Rattle.nv_world_model.specs.declared.event.Event.TheVariants as event
use Rattle.nv_world_model.specs.Contained.{guest_of_one}
use Rattle.nv_world_model.specs.Geometry.{Geometry, Guest, regions_of, shape_of}
use Rattle.nv_world_model.specs.Seat.{Owner, held_by, held_in, owner_of, put_back, seat}
use Rattle.nv_world_model.specs.Step.{act_put_back, acted_in, administered_by, administered_in, ended_at_once, for_one, for_owner, for_taken}
use Rattle.nv_world_model.specs.Step.{entry_at, is_io_queue, list_at, listed, replied, step, take_from, take_front, take_tags, taken_to}
use Rattle.nv_world_model.specs.View.{IsAlike, is_tag_of, lane_numbers, own_held}
use Rattle.nv_world_model.specs.World.{Command, Ended, Flying, Free, Lane, Tag, Taken, World, claimed, group, is_free, lowest, tag_in, tag_of}
use Rattle.nv_world_model.specs.World.{with_controller, with_tag, with_tags}
use Rattle.nv_world_model.proofs.Seats.{slice_get-set}
use Rattle.nv_laws_sound.specs.Consistent.{IsConsistentOfTags}
use Rattle.nv_laws_sound.specs.LaidOut.{IsLaidOut}
use Rattle.nv_laws_sound.proofs.Changes.{put_image-area}
use Rattle.nv_laws_sound.proofs.Folds.{group-distinct}
use Rattle.nv_laws_sound.proofs.Numbers.{Passes, numbers-distinct, numbers-pass, numbers_where, take-all, take-distinct}
use Rattle.nv_laws_sound.proofs.Slots.{device-there}
use Rattle.nv_laws_sound.proofs.Takes.{claimed-is}
use Rattle.nv_laws_sound.proofs.Lists.{length-set, some-same}
use Rattle.nv_laws_sound.proofs.Retags.{is-at, tag-is}
use Rattle.nv_laws.specs.Leaving.{IsBytes}
use Rattle.nv_laws.specs.Alike.{GoesByItsOwn, HoldsNothingFree}
use Rattle.nv_laws.proofs.others.AlikeFolds.{IsPair, at_once-alike, own-pair, tag-alike, tags-alike}
use Rattle.nv_laws.proofs.others.AlikeGroups.{claimed-same, group-mine}
use Rattle.nv_laws.proofs.others.AlikeReplies.{acted-same, entry-same, group-same, lanes-same, memory, own, tag-here}
use Rattle.nv_laws.proofs.others.AlikeWalks.{either-both, guest-both, lane-both, device-too, owner-both, taken-both}
use Rattle.nv_laws.proofs.others.Behind.{alike-lanes, guests-shared, lanes-shared, rings-shared, shared-of}
use Rattle.nv_laws.proofs.others.Leaving.{bytes-in-lane}
use Rattle.nv_laws.proofs.others.Shown.{in_span}
use Rattle.nv_laws.proofs.others.ShownTags.{tag_spans}

-- ---- memory that is put back

-- a byte that is the same in both is the same where the same memory is put back
pub put_image-both : (regions : List Region) (mine again host other : ℕ → ℕ) (addr : ℕ) → mine ≡ again → host addr ≡ other addr
    → put_image regions mine host addr ≡ put_image regions again other addr
unfolding put_image
put_image-both regions mine again host other addr same bytes =
    ap (λ m. byte_or (host addr) m (guest_of regions addr)) same ∙ ap (λ b. byte_or b again (guest_of regions addr)) bytes

-- ---- acts

of-either : {X : Type 0} (f : Acted → X) (b : Bool) (x y u v : Acted) → f x ≡ f u → f y ≡ f v → f (cond b x y) ≡ f (cond b u v)
of-either f true x y u v one other = one
of-either f false x y u v one other = other

module _ (p q : Private) (memory : p.memory ≡ q.memory) (controller : p.controller ≡ q.controller) where
  controlled-memory : (c : Option Controller) → (controlled c p).state.memory ≡ (controlled c q).state.memory
  controlled-memory None = memory
  controlled-memory (Some c) = memory

  controlled-controller : (c : Option Controller) → (controlled c p).state.controller ≡ (controlled c q).state.controller
  controlled-controller None = controller
  controlled-controller (Some c) = refl

  register-memory : (value : Option ℕ) → (register_replied value p).state.memory ≡ (register_replied value q).state.memory
  register-memory None = memory
  register-memory (Some value) = memory

  register-controller : (value : Option ℕ) → (register_replied value p).state.controller ≡ (register_replied value q).state.controller
  register-controller None = controller
  register-controller (Some value) = controller

  -- the memory behind an act is by memory and controller alone, and so is the controller
  acted-memory : (shape : Shape) (a : Act) → (acted shape a p).state.memory ≡ (acted shape a q).state.memory
  acted-memory shape (act.Store addr bytes) = of-either (λ x. x.state.memory) (everywhere shape.mapped addr (length bytes)) _ _ _ _ (ap (λ m. stored m addr bytes) memory) memory
  acted-memory shape (act.Load addr len) = of-either (λ x. x.state.memory) (everywhere shape.mapped addr len) _ _ _ _ memory memory
  acted-memory shape (act.RegRead offset) =
      register-memory (reg_read p.controller offset) ∙ ap (λ c. (register_replied (reg_read c offset) q).state.memory) controller
  acted-memory shape (act.RegWrite offset value) =
      controlled-memory (reg_write shape.mapped p.controller offset value) ∙ ap (λ c. (controlled (reg_write shape.mapped c offset value) q).state.memory) controller
  acted-memory shape (act.Doorbell offset value) =
      controlled-memory (doorbell p.controller offset value) ∙ ap (λ c. (controlled (doorbell c offset value) q).state.memory) controller

  acted-controller : (shape : Shape) (a : Act) → (acted shape a p).state.controller ≡ (acted shape a q).state.controller
  acted-controller shape (act.Store addr bytes) = of-either (λ x. x.state.controller) (everywhere shape.mapped addr (length bytes)) _ _ _ _ controller controller
  acted-controller shape (act.Load addr len) = of-either (λ x. x.state.controller) (everywhere shape.mapped addr len) _ _ _ _ controller controller
  acted-controller shape (act.RegRead offset) =
      register-controller (reg_read p.controller offset) ∙ ap (λ c. (register_replied (reg_read c offset) q).state.controller) controller
  acted-controller shape (act.RegWrite offset value) =
      controlled-controller (reg_write shape.mapped p.controller offset value) ∙ ap (λ c. (controlled (reg_write shape.mapped c offset value) q).state.controller) controller
  acted-controller shape (act.Doorbell offset value) =
      controlled-controller (doorbell p.controller offset value) ∙ ap (λ c. (controlled (doorbell c offset value) q).state.controller) controller

  acted-reply : (shape : Shape) (a : Act) → (acted shape a p).reply ≡ (acted shape a q).reply
  acted-reply shape a = acted-same shape a p q memory controller

-- a tag that is free
free-there : (o : Option Tag) → option_map is_free o ≡ Some true → o ≡ Some Free
free-there None e = cc
free-there (Some Free) e = refl
free-there (Some (Taken command reads)) e = cc
free-there (Some (Flying command share standing)) e = cc
free-there (Some (Ended command st share)) e = cc

module _ (host_bytes : ℕ) (geometry : Geometry) (w z : World) (laid : IsLaidOut host_bytes (length w.lanes) geometry) (fine : IsConsistentOfTags geometry w)
    (number : ℕ) (guest : Guest) (given : slice_get geometry.guests number ≡ Some guest) (alike : IsAlike number guest geometry w z) where
  abbrev me : Controller → Owner
  me c = own geometry w z number guest given alike c

  abbrev Behind : World → World → Type 0
  Behind v u = IsAlike number guest geometry v u

  -- what is put back to its memory leaves all bytes of tags
  pub image-left : (memory host : ℕ → ℕ) (a b : ℕ) (t : Tag) (addr : ℕ) → tag_of w a b ≡ Some t → IsBytes geometry.mediator a b t addr
      → host addr ≡ put_image (regions_of guest) memory host addr
  image-left memory host a b t addr there bytes =
      let lies = bytes-in-lane geometry w a b addr t fine there bytes in
      put_image-area host_bytes (length w.lanes) geometry number guest memory host a laid given lies.below addr lies.low lies.high

  put_back-alike : (c now then_too : Controller) (memory again : ℕ → ℕ) → slice_get w.controllers number ≡ Some c → slice_get z.controllers number ≡ Some c
      → memory ≡ again → now ≡ then_too → Behind (put_back (me c) memory now w) (put_back (me c) again then_too z)
  unfolding put_back
  put_back-alike c now then_too memory again one two same also =
      alike-lanes geometry number guest w z alike (put_back (me c) memory now w) (put_back (me c) again then_too z) refl refl refl refl
      (image-left memory w.host)
      (record {
        bytes = (λ addr bytes. put_image-both (regions_of guest) memory again w.host z.host addr same bytes);
        blocks = alike.view.blocks;
        marks = alike.marks;
        controller = slice_get-set w.controllers number c now one ∙ ap (λ x. Some x) also ∙ sym (slice_get-set z.controllers number c then_too two);
        shared = shared-of (put_back (me c) memory now w) (put_back (me c) again then_too z) (lanes-shared w z alike.shared) (rings-shared w z alike.shared)
            (length-set w.controllers number now ∙ guests-shared w z alike.shared ∙ sym (length-set z.controllers number then_too));
      })

  act-put : (r : Reply) (p q : Private) (c : Controller) → slice_get w.controllers number ≡ Some c → slice_get z.controllers number ≡ Some c
      → p.memory ≡ q.memory → p.controller ≡ q.controller → Behind (act_put_back r p (me c) w).world (act_put_back r q (me c) z).world
  act-put reply.Done p q c one two same also = put_back-alike c p.controller q.controller p.memory q.memory one two same also
  act-put (reply.Bytes bytes) p q c one two same also = alike
  act-put reply.Idle p q c one two same also = alike
  act-put reply.Busy p q c one two same also = alike
  act-put reply.Held p q c one two same also = alike
  act-put reply.Stale p q c one two same also = alike
  act-put reply.Unmapped p q c one two same also = alike
  act-put reply.Ignored p q c one two same also = alike
  act-put reply.NoMemory p q c one two same also = alike

  abbrev same_memory : image (regions_of guest) w.host ≡ image (regions_of guest) z.host
  same_memory = memory geometry w z number guest given alike

  pub acts-alike : (n : ℕ) (a : Act) → n ≡ number → Behind (step geometry (event.Guest n a) w).world (step geometry (event.Guest n a) z).world
  unfolding step acted_in seat
  acts-alike n a same =
      guest-both geometry w z number guest given alike Behind alike n same (λ o. acted_in geometry a o w) (λ o. acted_in geometry a o z)
      (λ c one two.
      (let p = seat geometry (me c) w in
      let q = seat geometry (me c) z in
      subst (λ r. Behind (act_put_back (acted (shape_of guest) a p).reply (acted (shape_of guest) a p).state (me c) w).world (act_put_back r (acted (shape_of guest) a q).state (me c) z).world)
      (acted-reply p q same_memory refl (shape_of guest) a)
      (act-put (acted (shape_of guest) a p).reply (acted (shape_of guest) a p).state (acted (shape_of guest) a q).state c one two
      (acted-memory p q same_memory refl (shape_of guest) a) (acted-controller p q same_memory refl (shape_of guest) a))))

  admin-by : (x : AdminStep) (c : Controller) → slice_get w.controllers number ≡ Some c → slice_get z.controllers number ≡ Some c
      → Behind (administered_by x (me c) w).world (administered_by x (me c) z).world
  admin-by NothingToDo c one two = alike
  admin-by QueueFull c one two = alike
  admin-by (Stepped now memory) c one two = put_back-alike c now now memory memory one two refl refl

  pub admins-alike : (n : ℕ) → n ≡ number → Behind (step geometry (event.Admin n) w).world (step geometry (event.Admin n) z).world
  unfolding step administered_in
  admins-alike n same =
      guest-both geometry w z number guest given alike Behind alike n same (λ o. administered_in o w) (λ o. administered_in o z)
      (λ c one two.
      subst (λ m. Behind (administered_by (admin (shape_of guest).mapped (shape_of guest).blocks c (image (regions_of guest) w.host)) (me c) w).world
      (administered_by (admin (shape_of guest).mapped (shape_of guest).blocks c m) (me c) z).world) same_memory
      (admin-by (admin (shape_of guest).mapped (shape_of guest).blocks c (image (regions_of guest) w.host)) c one two))

  -- ---- where a tag of its own is

  -- in a lane with its device's side in both
  pub sides-both : (lane tag : ℕ) (t : Tag) → tag_of w lane tag ≡ Some t
      → (d : DeviceLane) × (e : DeviceLane) × (slice_get w.device lane ≡ Some d) × (slice_get z.device lane ≡ Some e)
  sides-both lane tag t there =
      let a = is-at geometry w lane tag t fine there in
      let e = device-too geometry w z number guest given alike lane a.d a.at_device in
      (a.d, e.0, a.at_device, e.1)

  -- a tag of its own changes, and is shown no more of
  own-alike : (lane tag : ℕ) (t new : Tag) → tag_of w lane tag ≡ Some t → is_tag_of number (Some t) ≡ true
      → ((addr : ℕ) → list_any (in_span addr) (tag_spans guest geometry (with_tag lane tag new w) lane tag new) ≡ false)
      → Behind (with_tag lane tag new w) (with_tag lane tag new z)
  own-alike lane tag t new there mine nothing =
      let x = sides-both lane tag t there in
      tag-alike geometry number guest given w z alike lane tag x.0 x.1 new x.2 x.3
      (own-pair geometry number guest given w z alike lane tag new (record { t = t; is = there; has = mine })) nothing

  -- ---- lists, and commands that end at once

  list-alike : (addr len lane tag : ℕ) (command : Command) (reads : List ReadDone) (c : Controller) → tag_of w lane tag ≡ Some (Taken command reads) → command.guest ≡ number
      → Behind (listed addr len lane tag command reads (me c) w).world (listed addr len lane tag command reads (me c) z).world
  unfolding listed
  list-alike addr len lane tag command reads c there whose =
      subst (λ m. Behind (with_tag lane tag (Taken command (reads ++ record { addr = addr; bytes = bytes_from (image (regions_of guest) w.host) addr len } ∷ [])) w)
      (with_tag lane tag (Taken command (reads ++ record { addr = addr; bytes = bytes_from m addr len } ∷ [])) z)) same_memory
      (own-alike lane tag (Taken command reads) (Taken command (reads ++ record { addr = addr; bytes = bytes_from (image (regions_of guest) w.host) addr len } ∷ [])) there
      (eq-eqb command.guest number whose) (λ x. refl))

  pub lists-alike : (lane tag addr len : ℕ) → guest_of_one (tag_of w lane tag) ≡ Some number
      → Behind (step geometry (event.List lane tag addr len) w).world (step geometry (event.List lane tag addr len) z).world
  unfolding step
  lists-alike lane tag addr len mine =
      let more = λ (command : Command) (reads : List ReadDone). for_owner (owner_of geometry w command.guest) w (λ o. list_at addr len lane tag command reads o w) in
      let again = λ (command : Command) (reads : List ReadDone). for_owner (owner_of geometry z command.guest) z (λ o. list_at addr len lane tag command reads o z) in
      subst (λ t. Behind (for_taken tag (tag_of w lane tag) w more).world (for_taken tag t z again).world) (tag-here geometry w z number guest given alike lane tag mine)
      (taken-both Behind w z alike number tag (tag_of w lane tag) mine more again (λ command reads there whose leads.
      owner-both geometry w z number guest given alike Behind alike command.guest whose
      (λ o. list_at addr len lane tag command reads o w) (λ o. list_at addr len lane tag command reads o z) (λ c one two.
      either-both Behind w z alike (all_mapped (regions_of guest) addr len) (all_mapped (regions_of guest) addr len) refl _ _ _ _
      (λ mapped. either-both Behind w z alike (nat_le 1 len && nat_le len part_size) (nat_le 1 len && nat_le len part_size) refl _ _ _ _
      (λ fits. list-alike addr len lane tag command reads c there whose) (λ out. alike)) (λ out. alike))))

  module _ (one : GoesByItsOwn number w) (two : GoesByItsOwn number z) where
    -- a command's tags end at once in both
    pub ended-alike : (lane tag : ℕ) (command : Command) (reads : List ReadDone) (st : StatusField) → tag_of w lane tag ≡ Some (Taken command reads)
        → command.guest ≡ number
        → Behind (ended_at_once lane (group w lane tag) command st w) (ended_at_once lane (group z lane tag) command st z)
    ended-alike lane tag command reads st there whose =
        let x = sides-both lane tag (Taken command reads) there in
        let mine : is_tag_of number (tag_of w lane tag) ≡ true = ap (is_tag_of number) there ∙ eq-eqb command.guest number whose in
        subst (λ tags. Behind (ended_at_once lane (group w lane tag) command st w) (ended_at_once lane tags command st z))
        (group-same geometry w z number guest given alike one two lane tag mine)
        (at_once-alike geometry number guest given lane (group w lane tag) command st x.0 x.1 w z alike x.2 x.3
        (group-mine number w lane tag one mine) (group-distinct w lane tag))

    pub give_ups-alike : (lane tag : ℕ) → guest_of_one (tag_of w lane tag) ≡ Some number
        → Behind (step geometry (event.GiveUp lane tag) w).world (step geometry (event.GiveUp lane tag) z).world
    unfolding step
    give_ups-alike lane tag mine =
        let more = λ (v : World) (command : Command) (reads : List ReadDone).
        replied reply.Done (ended_at_once lane (group v lane tag) command (done_with InternalError) v) in
        subst (λ t. Behind (for_taken tag (tag_of w lane tag) w (more w)).world (for_taken tag t z (more z)).world) (tag-here geometry w z number guest given alike lane tag mine)
        (taken-both Behind w z alike number tag (tag_of w lane tag) mine (more w) (more z)
        (λ command reads there whose leads. ended-alike lane tag command reads (done_with InternalError) there whose))

  -- ---- takes

  module _ (nothing : HoldsNothingFree z) where
    -- free tags are pairs
    free-pair : (lane tag : ℕ) (l m : Lane) (now : Tag) → slice_get w.lanes lane ≡ Some l → slice_get z.lanes lane ≡ Some m → map is_free l.tags ≡ map is_free m.tags
        → Passes is_free l.tags tag → IsPair geometry number guest given w z lane now tag
    free-pair lane tag l m now at too frees p =
        let here : tag_of w lane tag ≡ Some Free = ap (λ o. tag_in o tag) at ∙ free-there (slice_get l.tags tag) (ap (option_map is_free) p.is ∙ ap (λ b. Some b) p.passes) in
        let there : tag_of z lane tag ≡ Some Free =
        ap (λ o. tag_in o tag) too
        ∙ free-there (slice_get m.tags tag)
        (sym (slice_get-map is_free m.tags tag) ∙ ap (λ bs. slice_get bs tag) (sym frees) ∙ slice_get-map is_free l.tags tag
        ∙ ap (option_map is_free) p.is ∙ ap (λ b. Some b) p.passes) in
        let a = is-at geometry w lane tag Free fine here in
        let empty : held_in (slice_get w.device lane) tag ≡ None =
        ap (λ o. held_in o tag) a.at_device ∙ ap held_by a.at_held ∙ tag-is geometry w lane tag Free fine a in
        record { t = Free; s = Free; here = here; there = there; held = ap (own_held number (Some now)) (empty ∙ sym (nothing lane tag there)) }

    -- the controller's queue moves on in both
    took-on : (c now : Controller) → slice_get w.controllers number ≡ Some c → slice_get z.controllers number ≡ Some c
        → Behind (with_controller number now w) (with_controller number now z)
    took-on c now one two =
        alike-lanes geometry number guest w z alike (with_controller number now w) (with_controller number now z) refl refl refl refl (λ a b t addr is bytes. refl)
        (record {
          bytes = (λ addr bytes. bytes);
          blocks = alike.view.blocks;
          marks = alike.marks;
          controller = slice_get-set w.controllers number c now one ∙ sym (slice_get-set z.controllers number c now two);
          shared =
              shared-of (with_controller number now w) (with_controller number now z) (lanes-shared w z alike.shared) (rings-shared w z alike.shared)
              (length-set w.controllers number now ∙ guests-shared w z alike.shared ∙ sym (length-set z.controllers number now));
        })

    taken-alike : (addr queue lane count : ℕ) (l m : Lane) (c : Controller) → slice_get w.controllers number ≡ Some c → slice_get z.controllers number ≡ Some c
        → slice_get w.lanes lane ≡ Some l → slice_get z.lanes lane ≡ Some m → map is_free l.tags ≡ map is_free m.tags
        → Behind (taken_to addr queue lane (take count (numbers_where is_free l.tags)) (me c) w)
        (taken_to addr queue lane (take count (numbers_where is_free l.tags)) (me c) z)
    unfolding taken_to
    taken-alike addr queue lane count l m c one two at too frees =
        let ns = take count (numbers_where is_free l.tags) in
        let new : List ℕ → Tag = λ entry. Taken (record { guest = number; queue = queue; entry = entry; leader = lowest ns }) [] in
        let now : Tag = new (entry_at addr (me c) w) in
        let v : World = with_controller number (took c queue) w in
        let u : World = with_controller number (took c queue) z in
        let d = device-there geometry w lane l fine at in
        let e = device-too geometry w z number guest given alike lane d.0 d.1 in
        let pairs : All (IsPair geometry number guest given w z lane now) ns =
        take-all (IsPair geometry number guest given w z lane now) count (numbers_where is_free l.tags)
        (All-weaker (Passes is_free l.tags) (IsPair geometry number guest given w z lane now) (λ n p. free-pair lane n l m now at too frees p)
        (numbers_where is_free l.tags) (numbers-pass is_free l.tags)) in
        subst (λ entry. Behind (with_tags lane ns now v) (with_tags lane ns (new entry) u)) (entry-same geometry w z number guest given alike addr c)
        (tags-alike geometry number guest given lane ns now d.0 e.0 v u (took-on c (took c queue) one two) d.1 e.1 (λ x n y. refl)
        (All-weaker (IsPair geometry number guest given w z lane now) (IsPair geometry number guest given v u lane now)
        (λ n p. record { t = p.t; s = p.s; here = p.here; there = p.there; held = p.held }) ns pairs)
        (take-distinct count (numbers_where is_free l.tags) (numbers-distinct is_free l.tags)))

    found-alike : (found found_too : Option (List ℕ)) (addr queue lane count : ℕ) (l m : Lane) (c : Controller) → slice_get w.controllers number ≡ Some c
        → slice_get z.controllers number ≡ Some c → slice_get w.lanes lane ≡ Some l → slice_get z.lanes lane ≡ Some m → map is_free l.tags ≡ map is_free m.tags
        → claimed count l.tags ≡ found → found ≡ found_too
        → Behind (take_tags found addr queue lane (me c) w).world (take_tags found_too addr queue lane (me c) z).world
    found-alike None None addr queue lane count l m c one two at too frees e same = alike
    found-alike None (Some tags) addr queue lane count l m c one two at too frees e same = cc
    found-alike (Some tags) None addr queue lane count l m c one two at too frees e same = cc
    found-alike (Some tags) (Some others) addr queue lane count l m c one two at too frees e same =
        let named : tags ≡ others = some-same tags others same in
        let is = (claimed-is count l.tags tags e).is in
        subst (λ ns. Behind (taken_to addr queue lane tags (me c) w) (taken_to addr queue lane ns (me c) z)) named
        (subst (λ ns. Behind (taken_to addr queue lane ns (me c) w) (taken_to addr queue lane ns (me c) z)) (sym is)
        (taken-alike addr queue lane count l m c one two at too frees))

    front-alike : (addr : Option ℕ) (queue lane : ℕ) (l m : Lane) (c : Controller) → slice_get w.controllers number ≡ Some c → slice_get z.controllers number ≡ Some c
        → slice_get w.lanes lane ≡ Some l → slice_get z.lanes lane ≡ Some m → lane_numbers l ≡ lane_numbers m
        → Behind (take_front addr queue lane l (me c) w).world (take_front addr queue lane m (me c) z).world
    front-alike None queue lane l m c one two at too numbers = alike
    front-alike (Some addr) queue lane l m c one two at too numbers =
        let frees : map is_free l.tags ≡ map is_free m.tags = ap (λ n. n.free) numbers in
        let count = tags_of_entry guest.namespace (entry_at addr (me c) w) in
        found-alike (claimed count l.tags) (claimed (tags_of_entry guest.namespace (entry_at addr (me c) z)) m.tags) addr queue lane count l m c one two at too frees refl
        (claimed-same count l.tags m.tags frees
        ∙ ap (λ entry. claimed (tags_of_entry guest.namespace entry) m.tags) (entry-same geometry w z number guest given alike addr c))

    pub takes-alike : (n queue lane : ℕ) → n ≡ number → Behind (step geometry (event.Take n queue lane) w).world (step geometry (event.Take n queue lane) z).world
    unfolding step
    takes-alike n queue lane same =
        guest-both geometry w z number guest given alike Behind alike n same (λ o. for_one (slice_get w.lanes lane) w (λ l. take_from queue lane l o w))
        (λ o. for_one (slice_get z.lanes lane) z (λ l. take_from queue lane l o z)) (λ c one two.
        lane-both Behind w z alike (slice_get w.lanes lane) (slice_get z.lanes lane) (lanes-same geometry w z number guest given alike lane)
        (λ l. take_from queue lane l (me c) w) (λ l. take_from queue lane l (me c) z) (λ l m at too numbers.
        either-both Behind w z alike (is_io_queue queue) (is_io_queue queue) refl _ _ _ _
        (λ io. front-alike (front c queue) queue lane l m c one two at too numbers) (λ out. alike)))
