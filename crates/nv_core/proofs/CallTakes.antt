-- A Take without memory: as the machine's call, and in each world that has its side.
use Rattle.std.proofs.Common.{◌≡◌, ℕ, ◌≤◌, Bool, true, false, cond, List, [], length, set, slice_get, Option, Some, None, refl, sym, ap, ◌∙◌, subst}
use Rattle.std.proofs.lemmas.Option.{slice_get_past}
use Rattle.nv_core.proofs.CallSteps.{side-there}
use Rattle.nv_core.proofs.Placed.{owner}
use Rattle.nv_core.proofs.SideTags.{tags-lane}
use Rattle.nv_core.specs.Front.{IsSideOf}
use Rattle.nv_core.specs.Take.{IsFrontIn, IsFrontTaken, IsNothingTaken, IsTagged, command_by}
use Rattle.nv_laws_sound.proofs.Lists.{set-same, some-same}
use Rattle.nv_laws_sound.specs.Side.{Side}
use Rattle.nv_machine.proofs.InWorlds.{Is, in-first}
use Rattle.nv_machine.proofs.SideWorlds.{begun}
use Rattle.nv_machine.proofs.TakeCalls.{take-is}
use Rattle.nv_machine.specs.Doing.{Called, controller_put, for_one, owner_in, replied}
use Rattle.nv_machine.specs.InWorld.{in_world, side_of}
use Rattle.nv_machine.specs.Machine.{call, called, take_from, take_front, take_tags}
use Rattle.nv_mem.specs.GuestMap.{Mapping}
use Rattle.nv_model.specs.Controller.{Controller, front, took}
use Rattle.nv_model.specs.Memory.{byte_in, bytes_from, image}
use Rattle.nv_model.specs.Queue.{sqe_size}
use Rattle.nv_model.specs.declared.reply.Reply.{Reply}
use Rattle.nv_model.specs.declared.reply.Reply.TheVariants as reply
use Rattle.nv_vctl.specs.Vctl.{entry_at}
use Rattle.nv_world_model.specs.Geometry.{Geometry, Guest, regions_of}
use Rattle.nv_world_model.specs.Seat.{Owner, owner_by}
use Rattle.nv_world_model.specs.Share.{tags_of_entry}
use Rattle.nv_world_model.specs.Step.{is_io_queue, step}
use Rattle.nv_world_model.specs.World.{Lane, Taken, World, claimed}
use Rattle.nv_world_model.specs.declared.event.Event.TheVariants as event

-- in each world that has the side it is the event, where the entry is the one at the front
pub take-law : (geometry : Geometry) (side : Side) (memory : List ℕ) (number queue lane : ℕ) (entry : List ℕ)
    → IsFrontIn geometry side number queue (byte_in memory) entry → (w : World) → IsSideOf side memory w
    → Is w (call geometry (event.Take number queue lane) entry (side_of w)) (step geometry (event.Take number queue lane) (in_world w (begun (side_of w))))
take-law geometry side memory number queue lane entry is w on =
    take-is geometry w (begun (side_of w)) number queue lane entry (λ o l addr whose there io at.
    is o addr (ap (λ (s : Side). owner_in geometry s number) (sym (side-there side memory w on)) ∙ whose) at
    ∙ ap (λ (h : ℕ → ℕ). bytes_from (image (regions_of o.given) h) addr sqe_size)
    (sym on.host ∙ ap (λ (v : World). v.host) (sym (in-first w))))

module _ (geometry : Geometry) (s old : Side) (number queue lane : ℕ) (entry : List ℕ) (same : s ≡ old) where
  -- the call comes to that reply and side
  abbrev Comes : (before : Side) → Reply → (after : Side) → Type 0
  Comes before r after = call geometry (event.Take number queue lane) entry before ≡ replied r (begun after)

  abbrev by : Option Guest → Option Controller → Option Lane → Called
  by g c l = for_one (owner_by number g c) (begun s) (λ o. for_one l (begun s) (λ k. take_from queue lane k entry o (begun s)))

  looked : (g : Option Guest) (c : Option Controller) (l : Option Lane) → slice_get geometry.guests number ≡ g → slice_get s.controllers number ≡ c
      → slice_get s.lanes lane ≡ l → call geometry (event.Take number queue lane) entry s ≡ by g c l
  unfolding called
  looked g c l there has found =
      ap (λ (x : Option Guest). by x (slice_get s.controllers number) (slice_get s.lanes lane)) there
      ∙ ap (λ (x : Option Controller). by g x (slice_get s.lanes lane)) has
      ∙ ap (λ (x : Option Lane). by g c x) found

  pub call-nobody : slice_get geometry.guests number ≡ None → Comes old reply.Ignored old
  call-nobody none =
      subst (λ (o : Side). Comes o reply.Ignored o) same (looked None (slice_get s.controllers number) (slice_get s.lanes lane) none refl refl)

  module _ (guest : Guest) (there : slice_get geometry.guests number ≡ Some guest) where
    pub call-no_controller : length s.controllers ≤ number → Comes old reply.Ignored old
    call-no_controller past =
        subst (λ (o : Side). Comes o reply.Ignored o) same
        (looked (Some guest) None (slice_get s.lanes lane) there (slice_get_past s.controllers number past) refl)

    module _ (c : Controller) (has : slice_get s.controllers number ≡ Some c) where
      pub call-no_lane : length s.lanes ≤ lane → Comes old reply.Ignored old
      call-no_lane past =
          subst (λ (o : Side). Comes o reply.Ignored o) same (looked (Some guest) (Some c) None there has (slice_get_past s.lanes lane past))

      module _ (l : Lane) (found : slice_get s.lanes lane ≡ Some l) where
        -- by whether it is an I/O queue
        asked : (io : Bool) → is_io_queue queue ≡ io → call geometry (event.Take number queue lane) entry s
            ≡ cond io (take_front (front c queue) queue lane l entry (owner number guest c) (begun s)) (replied reply.Ignored (begun s))
        asked io is =
            looked (Some guest) (Some c) (Some l) there has found
            ∙ ap (λ (b : Bool). cond b (take_front (front c queue) queue lane l entry (owner number guest c) (begun s)) (replied reply.Ignored (begun s))) is

        pub call-no_queue : is_io_queue queue ≡ false → Comes old reply.Ignored old
        call-no_queue is = subst (λ (o : Side). Comes o reply.Ignored o) same (asked false is)

        -- with the controller and the lane as they are then
        abbrev put : Reply → Controller → Lane → Called
        put r c_new l_new = replied r (begun (record s { lanes = set s.lanes lane l_new; controllers = set s.controllers number c_new }))

        nothing : (answer r : Reply) (c_new : Controller) (l_new : Lane) → IsNothingTaken answer r c c_new l l_new
            → replied answer (begun s) ≡ put r c_new l_new
        nothing answer r c_new l_new is =
            sym (ap (λ (x : Reply). put x c_new l_new) is.reply
            ∙ ap (λ (d : Controller). put answer d l_new) is.controller
            ∙ ap (λ (k : Lane). put answer c k) is.lane
            ∙ ap (λ (cs : List Controller). replied answer (begun (record s { controllers = cs; lanes = set s.lanes lane l }))) (set-same s.controllers number c has)
            ∙ ap (λ (ls : List Lane). replied answer (begun (record s { lanes = ls }))) (set-same s.lanes lane l found))

        tagged : (t : Option (List ℕ)) (r : Reply) (c_new : Controller) (l_new : Lane) → IsTagged t entry number queue r c c_new l l_new
            → take_tags t queue lane entry (owner number guest c) (begun s) ≡ put r c_new l_new
        tagged None r c_new l_new is = nothing reply.Busy r c_new l_new is
        tagged (Some tags) r c_new l_new is =
            ap (replied reply.Done)
            (tags-lane lane tags (Taken (command_by tags entry number queue) []) (controller_put number (took c queue) (begun s)) l found)
            ∙ sym (ap (λ (x : Reply). put x c_new l_new) is.reply
            ∙ ap (λ (d : Controller). put reply.Done d l_new) is.controller
            ∙ ap (λ (k : Lane). put reply.Done (took c queue) k) is.lane)

        fronted : (f : Option ℕ) (r : Reply) (c_new : Controller) (l_new : Lane) → IsFrontTaken f number queue guest.namespace entry r c c_new l l_new
            → take_front f queue lane l entry (owner number guest c) (begun s) ≡ put r c_new l_new
        fronted None r c_new l_new is = nothing reply.Idle r c_new l_new is
        fronted (Some addr) r c_new l_new is = tagged (claimed (tags_of_entry guest.namespace entry) l.tags) r c_new l_new is

        pub call-done : (i j : ℕ) (c_new : Controller) (l_new : Lane) (r : Reply) → i ≡ number → j ≡ lane → is_io_queue queue ≡ true
            → IsFrontTaken (front c queue) number queue guest.namespace entry r c c_new l l_new
            → Comes old r (record s { lanes = set s.lanes j l_new; controllers = set s.controllers i c_new })
        call-done i j c_new l_new r at at_lane io is =
            subst (λ (o : Side). Comes o r (record s { lanes = set s.lanes j l_new; controllers = set s.controllers i c_new })) same
            (subst (λ (n : ℕ). Comes s r (record s { lanes = set s.lanes j l_new; controllers = set s.controllers n c_new })) (sym at)
            (subst (λ (n : ℕ). Comes s r (record s { lanes = set s.lanes n l_new; controllers = set s.controllers number c_new })) (sym at_lane)
            (asked true io ∙ fronted (front c queue) r c_new l_new is)))

-- ---- the entry at the front

module _ (geometry : Geometry) (s : Side) (number queue : ℕ) (host : ℕ → ℕ) (entry : List ℕ) where
  abbrev by_owner : Option Guest → Option Controller → Type 0
  by_owner g c = (o : Owner) (addr : ℕ) → owner_by number g c ≡ Some o → front o.controller queue ≡ Some addr
      → entry ≡ bytes_from (image (regions_of o.given) host) addr sqe_size

  -- there is none where there is no guest, or no controller
  pub front-nobody : slice_get geometry.guests number ≡ None → IsFrontIn geometry s number queue host entry
  front-nobody none = subst (λ (g : Option Guest). by_owner g (slice_get s.controllers number)) (sym none) (λ o addr whose at. cc)

  pub front-no_controller : length s.controllers ≤ number → IsFrontIn geometry s number queue host entry
  front-no_controller past =
      subst (by_owner (slice_get geometry.guests number)) (sym (slice_get_past s.controllers number past)) (each (slice_get geometry.guests number))
    where
      each : (g : Option Guest) → by_owner g None
      each None o addr whose at = cc
      each (Some guest) o addr whose at = cc

  module _ (guest : Guest) (c : Controller) (there : slice_get geometry.guests number ≡ Some guest) (has : slice_get s.controllers number ≡ Some c) where
    front-of : ((addr : ℕ) → front c queue ≡ Some addr → entry ≡ bytes_from (image (regions_of guest) host) addr sqe_size)
        → IsFrontIn geometry s number queue host entry
    front-of is =
        subst (λ (g : Option Guest). by_owner g (slice_get s.controllers number)) (sym there)
        (subst (by_owner (Some guest)) (sym has)
        (λ o addr whose at.
        subst (λ (p : Owner). front p.controller queue ≡ Some addr → entry ≡ bytes_from (image (regions_of p.given) host) addr sqe_size)
        (some-same (owner number guest c) o whose) (is addr) at))

    -- as it was looked at, by the guest's map
    module _ (m : Mapping) (same : m ≡ guest.memory_map) where
      pub front-none : None ≡ entry_at (image m.regions host) (front c queue) → IsFrontIn geometry s number queue host entry
      front-none none =
          front-of (λ addr at. (let bad : None ≡ Some (bytes_from (image m.regions host) addr sqe_size) = none ∙ ap (entry_at (image m.regions host)) at in cc))

      pub front-some : Some entry ≡ entry_at (image m.regions host) (front c queue) → IsFrontIn geometry s number queue host entry
      front-some some =
          front-of (λ addr at. some-same entry (bytes_from (image m.regions host) addr sqe_size) (some ∙ ap (entry_at (image m.regions host)) at)
          ∙ ap (λ (k : Mapping). bytes_from (image k.regions host) addr sqe_size) same)
