-- An Admin without memory, as the machine's call.
use Rattle.std.proofs.Common.{◌≡◌, ℕ, ◌≤◌, Bool, true, false, cond, not, ◌&&◌, ◌==◌, List, [], ◌++◌, append-nil, length, set, slice_get, slice_index, Option, Some, None, is_none, arith, refl, sym, ap, ◌∙◌, subst}
use Rattle.std.proofs.lemmas.Option.{slice_get_past}
use Rattle.nv_admin.specs.Administering.{EventDone, administered, answered_with, command_at, completed_with, deletion_done, event_by, front_done, left_with, ready_done, takes_command}
use Rattle.nv_admin.specs.Identify.{Stored, command_stored, opcode_stored, shown_stored, structure_stored}
use Rattle.nv_admin.specs.declared.administered.Administered.{Administered}
use Rattle.nv_admin.specs.declared.administered.Administered.TheVariants as done
use Rattle.nv_admin.specs.declared.reply.Admin.{Admin}
use Rattle.nv_admin.specs.declared.reply.Admin.TheVariants as admin
use Rattle.nv_core.proofs.Placed.{owner}
use Rattle.nv_core.specs.AdminEffects.{admin_effects, admin_reply, command_hosts, completion_effects, page_effects}
use Rattle.nv_core.specs.Seat.{told_by}
use Rattle.nv_entry.specs.Opcode.{admin_opcode}
use Rattle.nv_entry.specs.Status.{StatusField}
use Rattle.nv_entry.specs.StatusCode.{done_with}
use Rattle.nv_entry.specs.Submission.{cid_of, fuse_of, opcode_of, psdt_of}
use Rattle.nv_entry.specs.declared.opcode.AdminOpcode.{AdminOpcode}
use Rattle.nv_entry.specs.declared.opcode.AdminOpcode.TheVariants.{DeleteIoSubmissionQueue, CreateIoSubmissionQueue, GetLogPage}
use Rattle.nv_entry.specs.declared.opcode.AdminOpcode.TheVariants.{DeleteIoCompletionQueue, CreateIoCompletionQueue, Identify}
use Rattle.nv_entry.specs.declared.opcode.AdminOpcode.TheVariants.{Abort, SetFeatures, GetFeatures, AsynchronousEventRequest}
use Rattle.nv_entry.specs.declared.status_code.StatusCode.TheVariants.{Success}
use Rattle.nv_laws_sound.proofs.Lists.{set-same}
use Rattle.nv_laws_sound.specs.Side.{IsKept, Side}
use Rattle.nv_machine.proofs.FetchedHosts.{hosts-length}
use Rattle.nv_machine.proofs.SideWorlds.{begun}
use Rattle.nv_machine.specs.Doing.{Called, Doing, for_one, replied}
use Rattle.nv_machine.specs.Effects.{Effect, hosts_from}
use Rattle.nv_machine.specs.Machine as machine
use Rattle.nv_machine.specs.Machine.{call, called, fetch}
use Rattle.nv_mem.specs.GuestMap.{Mapping, mapped}
use Rattle.nv_mem.specs.declared.region.Region.{Region}
use Rattle.nv_model.specs.Admin.{Hidden, Shown, Structure, admin_command, identify_reading, is_queue_full, shown}
use Rattle.nv_model.specs.Controller.{Controller, Deletion, Posted, completion_queue, front, is_ready, post, took, with_submission}
use Rattle.nv_model.specs.Laws.{QueuesInPlace}
use Rattle.nv_model.specs.Queue.{sqe_size}
use Rattle.nv_model.specs.Reading.{Faulty, Reading, Spells, TooLong}
use Rattle.nv_model.specs.declared.reply.Reply.TheVariants as reply
use Rattle.nv_vctl.proofs.Entries.{front-mapped}
use Rattle.nv_world_model.specs.Geometry.{Geometry, Guest, regions_of, shape_of}
use Rattle.nv_world_model.specs.Seat.{Owner, owner_by}
use Rattle.nv_world_model.specs.declared.event.Event.TheVariants as event

-- ---- what a command stores

module _ (given : Guest) (entry : List ℕ) where
  abbrev rs : List Region
  rs = regions_of given

  abbrev test : ℕ → Bool
  test = (shape_of given).mapped

  abbrev blocks : ℕ
  blocks = (shape_of given).blocks

  by-test : (b : Bool) (x : Option Stored) → page_effects (cond b x None) rs ≡ cond b (page_effects x rs) []
  by-test true x = refl
  by-test false x = refl

  by-none : (b : Bool) → page_effects (cond b None None) rs ≡ []
  by-none true = refl
  by-none false = refl

  structure-effects : (bytes : List ℕ) (reading : Reading) → page_effects (structure_stored bytes reading) rs ≡ machine.structure_stores bytes reading rs
  structure-effects bytes (Spells pieces) = refl
  structure-effects bytes (Faulty why) = refl
  structure-effects bytes TooLong = refl

  shown-effects : (what : Shown) → page_effects (shown_stored what test entry) rs ≡ machine.shown_stores what entry given
  shown-effects (Hidden why) = refl
  shown-effects (Structure bytes) = structure-effects bytes (identify_reading test entry)

  opcode-effects : (o : Option AdminOpcode) → page_effects (opcode_stored o test blocks entry) rs ≡ machine.opcode_stores o entry given
  opcode-effects None = refl
  opcode-effects (Some DeleteIoSubmissionQueue) = by-none (psdt_of entry == 0)
  opcode-effects (Some CreateIoSubmissionQueue) = by-none (psdt_of entry == 0)
  opcode-effects (Some GetLogPage) = by-none (psdt_of entry == 0)
  opcode-effects (Some DeleteIoCompletionQueue) = by-none (psdt_of entry == 0)
  opcode-effects (Some CreateIoCompletionQueue) = by-none (psdt_of entry == 0)
  opcode-effects (Some Identify) =
      by-test (psdt_of entry == 0) (shown_stored (shown blocks entry) test entry)
      ∙ ap (λ (e : List Effect). cond (psdt_of entry == 0) e []) (shown-effects (shown blocks entry))
  opcode-effects (Some Abort) = by-none (psdt_of entry == 0)
  opcode-effects (Some SetFeatures) = by-none (psdt_of entry == 0)
  opcode-effects (Some GetFeatures) = by-none (psdt_of entry == 0)
  opcode-effects (Some AsynchronousEventRequest) = by-none (psdt_of entry == 0)

  command-effects : page_effects (command_stored test blocks entry) rs ≡ machine.admin_stores entry given
  command-effects =
      by-test (fuse_of entry == 0) (opcode_stored (admin_opcode (opcode_of entry)) test blocks entry)
      ∙ ap (λ (e : List Effect). cond (fuse_of entry == 0) e []) (opcode-effects (admin_opcode (opcode_of entry)))

-- ---- the event

module _ (s : Side) (number : ℕ) (given : Guest) (c : Controller) (has : slice_get s.controllers number ≡ Some c) (entry : List ℕ) where
  abbrev put : Controller → Side
  put d = record s { controllers = set s.controllers number d }

  -- what an event that came to this is for the machine
  abbrev called_by : EventDone → Called
  called_by e = replied (told_by e.reply) (record {
    side = put e.controller;
    effects = page_effects e.stored (regions_of given) ++ completion_effects e.completion (regions_of given);
  })

  left-called : (a : Admin) → replied (told_by a) (begun s) ≡ called_by (left_with a c)
  left-called a = ap (λ (cs : List Controller). replied (told_by a) (begun (record s { controllers = cs }))) (sym (set-same s.controllers number c has))

  both-called : (b : Bool) (x y : Called) (e f : EventDone) → x ≡ called_by e → y ≡ called_by f → cond b x y ≡ called_by (cond b e f)
  both-called true x y e f so not_so = so
  both-called false x y e f so not_so = not_so

  completed-called : (found : Option Posted) (st : Option Stored)
      → machine.completed_with found (page_effects st (regions_of given)) (owner number given c) (begun s) ≡ called_by (completed_with found st c)
  completed-called None st = left-called admin.Held
  completed-called (Some p) st = refl

  answered-called : (answer : Option (ℕ × StatusField)) (cid : ℕ) (d : Controller) (st : Option Stored)
      → machine.answered_with answer cid d (page_effects st (regions_of given)) (owner number given c) (begun s) ≡ called_by (answered_with answer cid d st c)
  answered-called None cid d st =
      ap (λ (effects : List Effect). replied reply.Done (record { side = put d; effects = effects })) (sym (append-nil (page_effects st (regions_of given))))
  answered-called (Some a) cid d st = completed-called (post d 0 a.0 cid a.1) st

  front-called : (f : Option ℕ)
      → machine.front_done f entry (owner number given c) (begun s) ≡ called_by (front_done f (shape_of given).mapped (shape_of given).blocks entry c)
  front-called None = left-called admin.Idle
  front-called (Some addr) =
      let also = admin_command (shape_of given).mapped (shape_of given).blocks entry (took c 0) (λ at. 0) in
      both-called (is_queue_full (completion_queue c 0)) _ _ _ _ (left-called admin.Held)
      (ap (λ (e : List Effect). machine.answered_with also.answer (cid_of entry) also.controller e (owner number given c) (begun s)) (sym (command-effects given entry))
      ∙ answered-called also.answer (cid_of entry) also.controller (command_stored (shape_of given).mapped (shape_of given).blocks entry))

  deletion-called : (d : Deletion) → machine.deletion_done d (owner number given c) (begun s) ≡ called_by (deletion_done d c)
  deletion-called d =
      both-called (not (slice_index c.taken d.queue == 0)) _ _ _ _ (left-called admin.Idle)
      (both-called (is_queue_full (completion_queue c 0)) _ _ _ _ (left-called admin.Held)
      (answered-called (Some (0, done_with Success)) d.cid (record (with_submission c d.queue None) { deletion = None }) None))

  ready-called : (waiting : Option Deletion)
      → machine.ready_done waiting entry (owner number given c) (begun s)
      ≡ called_by (ready_done waiting (shape_of given).mapped (shape_of given).blocks entry c)
  ready-called (Some d) = deletion-called d
  ready-called None = front-called (front c 0)

  event-called : machine.administered_in entry (owner number given c) (begun s)
      ≡ called_by (administered (shape_of given).mapped (shape_of given).blocks entry c)
  unfolding administered
  event-called = both-called (is_ready c) _ _ _ _ (ready-called c.deletion) (left-called admin.Idle)

-- ---- the call

module _ (geometry : Geometry) (s old : Side) (number : ℕ) (entry : List ℕ) (same : s ≡ old) where
  -- the call comes to that result and side
  abbrev Comes : (before : Side) → Option Guest → Option Administered → (after : Side) → Type 0
  Comes before g told after =
      call geometry (event.Admin number) entry before ≡ replied (admin_reply told) (record { side = after; effects = admin_effects g told })

  abbrev by : Option Guest → Option Controller → Called
  by g c = for_one (owner_by number g c) (begun s) (λ o. machine.administered_in entry o (begun s))

  looked : (g : Option Guest) (c : Option Controller) → slice_get geometry.guests number ≡ g → slice_get s.controllers number ≡ c
      → call geometry (event.Admin number) entry s ≡ by g c
  unfolding called
  looked g c there has = ap (λ (x : Option Guest). by x (slice_get s.controllers number)) there ∙ ap (λ (x : Option Controller). by g x) has

  pub call-nobody : slice_get geometry.guests number ≡ None → Comes old (slice_get geometry.guests number) None old
  call-nobody none = subst (λ (o : Side). Comes o (slice_get geometry.guests number) None o) same
      (subst (λ (g : Option Guest). Comes s g None s) (sym none) (looked None (slice_get s.controllers number) none refl))

  module _ (given : Guest) (there : slice_get geometry.guests number ≡ Some given) where
    pub call-no_controller : length s.controllers ≤ number → Comes old (slice_get geometry.guests number) None old
    call-no_controller past = subst (λ (o : Side). Comes o (slice_get geometry.guests number) None o) same
        (subst (λ (g : Option Guest). Comes s g None s) (sym there) (looked (Some given) None there (slice_get_past s.controllers number past)))

    module _ (c : Controller) (has : slice_get s.controllers number ≡ Some c) where
      told : (a : Administered) (new : Controller)
          → called_by s number given c has entry (event_by a new)
          ≡ replied (admin_reply (Some a)) (record { side = record s { controllers = set s.controllers number new }; effects = admin_effects (Some given) (Some a) })
      told done.Idle new = refl
      told done.Held new = refl
      told (done.Done page completion) new = refl

      pub call-done : (i : ℕ) (new : Controller) (m : Mapping) (count : ℕ) (a : Administered) → i ≡ number → m ≡ given.memory_map
          → count ≡ (shape_of given).blocks → administered (mapped m.regions) count entry c ≡ event_by a new
          → Comes old (slice_get geometry.guests number) (Some a) (record s { controllers = set s.controllers i new })
      call-done i new m count a at map_is blocks_is is =
          let event_is : administered (shape_of given).mapped (shape_of given).blocks entry c ≡ event_by a new =
          ap (λ (k : Mapping). administered (mapped k.regions) (shape_of given).blocks entry c) (sym map_is)
          ∙ ap (λ (n : ℕ). administered (mapped m.regions) n entry c) (sym blocks_is) ∙ is in
          subst (λ (o : Side). Comes o (slice_get geometry.guests number) (Some a) (record s { controllers = set s.controllers i new })) same
          (subst (λ (n : ℕ). Comes s (slice_get geometry.guests number) (Some a) (record s { controllers = set s.controllers n new })) (sym at)
          (subst (λ (g : Option Guest). Comes s g (Some a) (record s { controllers = set s.controllers number new })) (sym there)
          (looked (Some given) (Some c) there has ∙ event-called s number given c has entry
          ∙ ap (called_by s number given c has entry) event_is ∙ told a new)))

-- ---- what is fetched

module _ (geometry : Geometry) (s old : Side) (number : ℕ) (same : s ≡ old) where
  abbrev Fetches : (before : Side) → Option Guest → (at : Option ℕ) → Type 0
  Fetches before g at = fetch geometry (event.Admin number) before ≡ command_hosts g at

  asked : (g : Option Guest) (c : Option Controller) → slice_get geometry.guests number ≡ g → slice_get s.controllers number ≡ c
      → fetch geometry (event.Admin number) s ≡ machine.from_one (owner_by number g c) machine.admin_fetch
  unfolding fetch
  asked g c there has =
      ap (λ (x : Option Guest). machine.from_one (owner_by number x (slice_get s.controllers number)) machine.admin_fetch) there
      ∙ ap (λ (x : Option Controller). machine.from_one (owner_by number g x) machine.admin_fetch) has

  pub fetch-nobody : slice_get geometry.guests number ≡ None → Fetches old (slice_get geometry.guests number) None
  fetch-nobody none = subst (λ (o : Side). Fetches o (slice_get geometry.guests number) None) same
      (subst (λ (g : Option Guest). Fetches s g None) (sym none) (asked None (slice_get s.controllers number) none refl))

  module _ (given : Guest) (there : slice_get geometry.guests number ≡ Some given) where
    pub fetch-no_controller : length s.controllers ≤ number → Fetches old (slice_get geometry.guests number) None
    fetch-no_controller past = subst (λ (o : Side). Fetches o (slice_get geometry.guests number) None) same
        (subst (λ (g : Option Guest). Fetches s g None) (sym there) (asked (Some given) None there (slice_get_past s.controllers number past)))

    -- the front command, where one is fetched
    fronted : (b : Bool) (f : Option ℕ)
        → cond b (machine.from_one f (λ addr. hosts_from (regions_of given) addr sqe_size)) [] ≡ command_hosts (Some given) (cond b f None)
    fronted true None = refl
    fronted true (Some addr) = refl
    fronted false f = refl

    pub fetch-done : (c : Controller) (at : Option ℕ) → slice_get s.controllers number ≡ Some c → at ≡ command_at c
        → Fetches old (slice_get geometry.guests number) at
    fetch-done c at has is = subst (λ (o : Side). Fetches o (slice_get geometry.guests number) at) same
        (subst (λ (g : Option Guest). Fetches s g at) (sym there)
        (asked (Some given) (Some c) there has ∙ fronted (takes_command c) (front c 0)
        ∙ ap (command_hosts (Some given)) (sym is)))

-- ---- where nothing is fetched, no command is looked at

module _ (o : Owner) (other entry : List ℕ) (m : Doing) where
  front-unasked : (f : Option ℕ) (full : Bool) → is_queue_full (completion_queue o.controller 0) ≡ full
      → cond (not full) (machine.from_one f (λ addr. hosts_from (regions_of o.given) addr sqe_size)) [] ≡ []
      → ((addr : ℕ) → f ≡ Some addr → length (hosts_from (regions_of o.given) addr sqe_size) ≡ sqe_size)
      → machine.front_done f other o m ≡ machine.front_done f entry o m
  front-unasked None full is none many = refl
  front-unasked (Some addr) true is none many = rw is refl
  front-unasked (Some addr) false is none many =
      let bad : 0 ≡ sqe_size = ap length (sym none) ∙ many addr refl in absurd (omega arith)

  ready-unasked : (waiting : Option Deletion)
      → cond (is_none waiting && not (is_queue_full (completion_queue o.controller 0))) (machine.front_entry o 0) [] ≡ []
      → ((addr : ℕ) → front o.controller 0 ≡ Some addr → length (hosts_from (regions_of o.given) addr sqe_size) ≡ sqe_size)
      → machine.ready_done waiting other o m ≡ machine.ready_done waiting entry o m
  ready-unasked (Some d) none many = refl
  ready-unasked None none many = front-unasked (front o.controller 0) (is_queue_full (completion_queue o.controller 0)) refl none many

  owner-unasked : QueuesInPlace (mapped (regions_of o.given)) o.controller → machine.admin_fetch o ≡ []
      → machine.administered_in other o m ≡ machine.administered_in entry o m
  owner-unasked place none =
      ap (λ (x : Called). cond (is_ready o.controller) x (replied reply.Idle m))
      (ready-unasked o.controller.deletion none (λ addr at.
      hosts-length (regions_of o.given) addr sqe_size (front-mapped (mapped (regions_of o.given)) o.controller 0 addr place at)))

pub call-unasked : (geometry : Geometry) (s : Side) (number : ℕ) (other entry : List ℕ) → IsKept geometry s → fetch geometry (event.Admin number) s ≡ []
    → call geometry (event.Admin number) other s ≡ call geometry (event.Admin number) entry s
unfolding called fetch
call-unasked geometry s number other entry kept =
    each (slice_get geometry.guests number) (slice_get s.controllers number) refl refl
  where
    each : (g : Option Guest) (c : Option Controller) → slice_get geometry.guests number ≡ g → slice_get s.controllers number ≡ c
        → machine.from_one (owner_by number g c) machine.admin_fetch ≡ []
        → for_one (owner_by number g c) (begun s) (λ o. machine.administered_in other o (begun s))
        ≡ for_one (owner_by number g c) (begun s) (λ o. machine.administered_in entry o (begun s))
    each None c there has none = refl
    each (Some given) None there has none = refl
    each (Some given) (Some c) there has none = owner-unasked (owner number given c) other entry (begun s) (kept.queues number given c there has) none
