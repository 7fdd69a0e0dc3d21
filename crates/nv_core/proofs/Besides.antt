-- A Reap in a world that has the mediator's side but for the places of parts.
use Rattle.std.proofs.Common.{◌≡◌, ℕ, ◌<◌, ◌≤◌, Bool, false, List, get_or, length, map, set, slice_get, Option, Some, None, arith, refl, sym, ap, ◌∙◌, subst}
use Rattle.std.specs.Prelude.{◌↔◌, IsTrue}
use Rattle.std.specs.Option.{option_map}
use Rattle.std.proofs.lemmas.List.{map-set}
use Rattle.std.proofs.lemmas.Option.{get_or_from_slice_get, slice_get-map}
use Rattle.nv_core.proofs.Alike.{HasAlike, as-many, lane-alike}
use Rattle.nv_core.proofs.Dues.{due-told, reap-due}
use Rattle.nv_core.proofs.GroupWorlds.{looked-up}
use Rattle.nv_core.proofs.KeptStates.{kept-of}
use Rattle.nv_core.proofs.PhasedReaps.{low, must-idle, must-wait, phased, shows}
use Rattle.nv_core.proofs.Reaps.{IsAloft, cid-flies, queue-named, reap-done, reap-idle, reap-no_lane}
use Rattle.nv_core.proofs.Sides.{due-side, of-live, quiet-in, state_in}
use Rattle.nv_core.specs.Front.{ComesTo, IsBeside, IsLive, IsSideOf, with_side}
use Rattle.nv_laws_sound.specs.Side.{Side, rung_with}
use Rattle.nv_core.specs.State.{IsOf, State}
use Rattle.nv_core.specs.Tags.{state_in as point_in}
use Rattle.nv_device.specs.Physical.{lane_of}
use Rattle.nv_entry.specs.Completion.{cid_of as completed_cid, phase_of, sqid_of, status_of}
use Rattle.nv_entry.specs.Status.{StatusField}
use Rattle.nv_laws_sound.proofs.Lists.{some-same}
use Rattle.nv_laws_sound.specs.LaidOut.{IsLaidOut}
use Rattle.nv_laws_sound.specs.Phased.{phase_at}
use Rattle.nv_laws_sound.specs.Unplaced.{after_unplaced, unplaced_lane, unplaced_tag}
use Rattle.nv_model.specs.Controller.{Controller}
use Rattle.nv_model.specs.Memory.{byte_in, bytes_from}
use Rattle.nv_model.specs.Queue.{cqe_size}
use Rattle.nv_model.specs.declared.reply.Reply.{Reply}
use Rattle.nv_model.specs.declared.reply.Reply.TheVariants as reply
use Rattle.nv_tags.specs.declared.state.TagState.TheVariants as state
use mathlib.Core.Bool.{beq}
use Rattle.nv_world_model.specs.Area.{completion_slot, queue_pair}
use Rattle.nv_world_model.specs.Due.{due}
use Rattle.nv_world_model.specs.Geometry.{Geometry}
use Rattle.nv_world_model.specs.Share.{Share}
use Rattle.nv_world_model.specs.Step.{After, completion_read, passed_on, step}
use Rattle.nv_world_model.specs.World.{Command, Ended, Flying, Free, Lane, Standing, Tag, Taken, World, tag_changed}
use Rattle.nv_world_model.specs.declared.event.Event.TheVariants as event

-- a world that has a side has it but for places
pub beside-of : (side : Side) (memory : List ℕ) (w : World) → IsSideOf side memory w → IsBeside side memory w
beside-of side memory w is =
    record { host = is.host; lanes = ap (map unplaced_lane) is.lanes; controllers = is.controllers; tails = is.tails }

-- ---- two lanes that are the same but for places

-- a part of one is a part of the other
pub record FliesToo (o : Option Tag) (command : Command) (share : Share) : Type 0 where
  pub at : Standing
  pub is : o ≡ Some (Flying command share at)

flies-by : (t : Tag) (command : Command) (share : Share) (at : Standing) → unplaced_tag t ≡ unplaced_tag (Flying command share at) → FliesToo (Some t) command share
flies-by Free command share at e = cc
flies-by (Taken c rs) command share at e = cc
flies-by (Flying c s standing) command share at e =
    let commands : c ≡ command = cc in
    let shares : s ≡ share = cc in
    record { at = standing; is = ap (λ (x : Command). Some (Flying x s standing)) commands ∙ ap (λ (x : Share). Some (Flying command x standing)) shares }
flies-by (Ended c st share_of) command share at e = cc

flies-in : (o : Option Tag) (command : Command) (share : Share) (at : Standing) → option_map unplaced_tag o ≡ Some (unplaced_tag (Flying command share at))
    → FliesToo o command share
flies-in None command share at e = cc
flies-in (Some t) command share at e = flies-by t command share at (some-same (unplaced_tag t) (unplaced_tag (Flying command share at)) e)

module _ (l k : Lane) (same : unplaced_lane k ≡ unplaced_lane l) where
  tags-same : map unplaced_tag k.tags ≡ map unplaced_tag l.tags
  tags-same = ap (λ (x : Lane). x.tags) same

  pub flies-too : (cid : ℕ) (command : Command) (share : Share) (at : Standing) → slice_get k.tags cid ≡ Some (Flying command share at)
      → FliesToo (slice_get l.tags cid) command share
  flies-too cid command share at there =
      flies-in (slice_get l.tags cid) command share at
      (sym (slice_get-map unplaced_tag l.tags cid) ∙ ap (λ (ts : List Tag). slice_get ts cid) (sym tags-same) ∙ slice_get-map unplaced_tag k.tags cid
      ∙ ap (option_map unplaced_tag) there)

  pub changed-same : (cid : ℕ) (t : Tag) → unplaced_lane (completion_read (tag_changed cid t k)) ≡ unplaced_lane (completion_read (tag_changed cid t l))
  changed-same cid t =
      ap (λ (ts : List Tag). completion_read (let x : Lane = record k { tags = ts } in x)) (map-set unplaced_tag k.tags cid t)
      ∙ ap (λ (x : Lane). completion_read (let y : Lane = record x { tags = set x.tags cid (unplaced_tag t) } in y)) same
      ∙ sym (ap (λ (ts : List Tag). completion_read (let x : Lane = record l { tags = ts } in x)) (map-set unplaced_tag l.tags cid t))

-- a tag that is at that point is a part
grounded-not : (t : Option Tag) → point_in t ≡ Some state.Flying → IsAloft t
grounded-not None e = cc
grounded-not (Some Free) e = cc
grounded-not (Some (Taken command reads)) e = cc
grounded-not (Some (Flying command share at)) e = record { command = command; share = share; at = at; is = refl }
grounded-not (Some (Ended command st share)) e = cc

-- the lane of a world in the place of one of the side's
pub seen : (side : Side) (memory : List ℕ) (w : World) → IsBeside side memory w → (lane : ℕ) (l : Lane) → slice_get side.lanes lane ≡ Some l
    → HasAlike w.lanes lane l
seen side memory w on lane l found = lane-alike side.lanes w.lanes (sym on.lanes) lane l found

-- ---- a Reap

module _ (geometry : Geometry) (side : Side) (memory : List ℕ) (w : World) (on : IsBeside side memory w) (live : IsLive geometry w)
    (laid : IsLaidOut (length memory) (length side.lanes) geometry) where
  -- the world's own side
  abbrev theirs : Side
  theirs = record { lanes = w.lanes; tails = side.tails; controllers = side.controllers }

  exact : IsSideOf theirs memory w
  exact = record { host = on.host; lanes = refl; controllers = on.controllers; tails = on.tails }

  abbrev s : State
  s = state_in geometry theirs memory w exact

  of : IsOf geometry s
  of = of-live geometry theirs memory w exact (subst (λ n. IsLaidOut (length memory) n geometry) (sym (as-many w.lanes side.lanes on.lanes)) laid) live

  -- what the event comes to in the world
  closes : (lane : ℕ) (r : Reply) (ls : List Lane) (new : Side)
      → (let a : After = record { world = with_side (record { lanes = ls; tails = side.tails; controllers = side.controllers }) memory w; reply = r } in a)
      ≡ step geometry (event.Reap lane) w → map unplaced_lane ls ≡ map unplaced_lane new.lanes → new.tails ≡ side.tails → new.controllers ≡ side.controllers
      → ComesTo geometry (event.Reap lane) w r new memory
  closes lane r ls new is lanes tails controllers =
      let with_parts : List ℕ → List Lane → List Controller → After = λ ts xs cs. record {
        world = record w { host = byte_in memory; device = rung_with ts w.device; lanes = xs; controllers = cs };
        reply = r;
      } in
      ap (λ (ts : List ℕ). with_parts ts (map unplaced_lane new.lanes) new.controllers) tails
      ∙ ap (λ (xs : List Lane). with_parts side.tails xs new.controllers) (sym lanes)
      ∙ ap (λ (cs : List Controller). with_parts side.tails (map unplaced_lane ls) cs) controllers
      ∙ ap after_unplaced is

  pub beside-none : (lane : ℕ) → length side.lanes ≤ lane → ComesTo geometry (event.Reap lane) w reply.Ignored side memory
  beside-none lane past =
      closes lane reply.Ignored w.lanes side
      (quiet-in geometry theirs memory w exact (event.Reap lane) tt reply.Ignored theirs memory refl
      (reap-no_lane geometry s s lane refl (let many = as-many w.lanes side.lanes on.lanes in omega (arith, many, past))))
      on.lanes refl refl

  -- it is not due where there is no such lane
  pub undue-none : (lane : ℕ) → length side.lanes ≤ lane → false ≡ due geometry (event.Reap lane) w
  undue-none lane past =
      sym (due-told geometry (event.Reap lane) s s reply.Ignored
      (reap-no_lane geometry s s lane refl (let many = as-many w.lanes side.lanes on.lanes in omega (arith, many, past))))
      ∙ due-side geometry theirs memory w exact (event.Reap lane) tt

  module _ (lane i : ℕ) (l : Lane) (at : i ≡ lane) (below : i < length side.lanes) (has : l ≡ get_or side.lanes i l) (head addr : ℕ) (head_is : head ≡ l.head)
      (located : addr ≡ completion_slot geometry.mediator lane head) (completion : List ℕ) (read : completion ≡ bytes_from (byte_in memory) addr cqe_size)
      (p q : Bool) (iff : IsTrue p ↔ (phase_of completion ≡ 1)) (wants : q ≡ l.phase) where
    view : HasAlike w.lanes lane l
    view = seen side memory w on lane l (looked-up side.lanes lane i l at below has)

    abbrev k : Lane
    k = view.k

    below_w : i < length w.lanes
    below_w = (let many = as-many w.lanes side.lanes on.lanes in omega (arith, many, below))

    has_k : k ≡ get_or w.lanes i k
    has_k = sym (get_or_from_slice_get w.lanes i k k (ap (slice_get w.lanes) at ∙ view.there))

    head_k : head ≡ k.head
    head_k = head_is ∙ ap (λ (x : Lane). x.head) (sym view.same)

    wants_k : q ≡ k.phase
    wants_k = wants ∙ ap (λ (x : Lane). x.phase) (sym view.same)

    abbrev posted : ℕ
    posted = (lane_of s.device lane).posted

    reads : phase_of completion ≡ phase_at geometry (byte_in memory) lane k.head
    reads = ap phase_of (read ∙ ap (λ (a : ℕ). bytes_from (byte_in memory) a cqe_size) (located ∙ ap (completion_slot geometry.mediator lane) head_k))

    waits : p ≡ q → head ≡ posted → ⊥
    waits same equal =
        must-wait geometry (byte_in memory) lane k.head k.phase posted (lane_of s.device lane).phase (low geometry theirs memory w exact live lane i k at below_w has_k)
        (phased geometry theirs memory w exact live lane i k at below_w has_k) p q (phase_of completion) reads iff wants_k same (sym head_k ∙ equal)

    idles : (p ≡ q → ⊥) → k.head ≡ posted
    idles differ =
        must-idle geometry (byte_in memory) lane k.head k.phase posted (lane_of s.device lane).phase (low geometry theirs memory w exact live lane i k at below_w has_k)
        (phased geometry theirs memory w exact live lane i k at below_w has_k) p q (phase_of completion) reads iff wants_k differ

    -- it is due where the phase tag is the one that is wanted
    pub beside-due : beq p q ≡ due geometry (event.Reap lane) w
    beside-due =
        shows geometry (byte_in memory) lane k.head k.phase posted (lane_of s.device lane).phase (low geometry theirs memory w exact live lane i k at below_w has_k)
        (phased geometry theirs memory w exact live lane i k at below_w has_k) p q (phase_of completion) reads iff wants_k
        ∙ sym (reap-due geometry s (kept-of geometry s of) lane i k at below_w has_k)
        ∙ due-side geometry theirs memory w exact (event.Reap lane) tt

    -- the lane of the side changes as that of the world does
    set-alike : (x y : Lane) → unplaced_lane x ≡ unplaced_lane y → map unplaced_lane (set w.lanes i x) ≡ map unplaced_lane (set side.lanes i y)
    set-alike x y same =
        map-set unplaced_lane w.lanes i x ∙ ap (set (map unplaced_lane w.lanes) i) same ∙ ap (λ (ls : List Lane). set ls i (unplaced_lane y)) on.lanes
        ∙ sym (map-set unplaced_lane side.lanes i y)

    pub beside-idle : (p ≡ q → ⊥)
        → ComesTo geometry (event.Reap lane) w reply.Idle (record { lanes = set side.lanes i l; tails = side.tails; controllers = side.controllers }) memory
    beside-idle differ =
        closes lane reply.Idle (set w.lanes i k) (record { lanes = set side.lanes i l; tails = side.tails; controllers = side.controllers })
        (quiet-in geometry theirs memory w exact (event.Reap lane) tt reply.Idle (record { lanes = set w.lanes i k; tails = side.tails; controllers = side.controllers }) memory refl
        (reap-idle geometry s s lane refl of i k at below_w has_k head posted head_k refl (head_k ∙ idles differ)))
        (set-alike k l view.same) refl refl

    module _ (same : p ≡ q) (cid : ℕ) (named : cid ≡ completed_cid completion) where
      flies : point_in (slice_get k.tags cid) ≡ Some state.Flying
      flies = cid-flies geometry s s lane refl of i k at below_w has_k head posted head_k refl (waits same) addr cid completion located read named

      pub beside-queue : sqid_of completion ≡ queue_pair lane
      beside-queue = queue-named geometry s s lane refl of i k at below_w has_k head posted head_k refl (waits same) addr cid completion located read named

      pub beside-flies : point_in (slice_get l.tags cid) ≡ Some state.Flying
      beside-flies =
          let f = grounded-not (slice_get k.tags cid) flies in
          let t = flies-too l k view.same cid f.command f.share f.at f.is in ap point_in t.is

      pub beside-done : (st passed : StatusField) (mid l_new : Lane) → st ≡ status_of completion → passed ≡ passed_on st
          → ((command : Command) (share : Share) (standing : Standing) → slice_get l.tags cid ≡ Some (Flying command share standing)
          → mid ≡ tag_changed cid (Ended command passed (Some share)) l) → l_new ≡ completion_read mid
          → ComesTo geometry (event.Reap lane) w reply.Done (record { lanes = set side.lanes i l_new; tails = side.tails; controllers = side.controllers }) memory
      beside-done st passed mid l_new told by ends reads_on =
          let f = grounded-not (slice_get k.tags cid) flies in
          let t = flies-too l k view.same cid f.command f.share f.at f.is in
          let ended : Tag = Ended f.command passed (Some f.share) in
          let lane_is : l_new ≡ completion_read (tag_changed cid ended l) = reads_on ∙ ap completion_read (ends f.command f.share t.at t.is) in
          let theirs_new : Lane = completion_read (tag_changed cid ended k) in
          closes lane reply.Done (set w.lanes i theirs_new) (record { lanes = set side.lanes i l_new; tails = side.tails; controllers = side.controllers })
          (quiet-in geometry theirs memory w exact (event.Reap lane) tt reply.Done (record { lanes = set w.lanes i theirs_new; tails = side.tails; controllers = side.controllers }) memory refl
          (reap-done geometry s s lane refl of i k at below_w has_k head posted head_k refl (waits same) addr cid completion located read named
          st passed (tag_changed cid ended k) theirs_new told by (λ command share standing there. ends-so f.command f.share f.at command share standing f.is there) refl))
          (set-alike theirs_new l_new (changed-same l k view.same cid ended ∙ ap unplaced_lane (sym lane_is))) refl refl
        where
          ends-so : (c : Command) (x : Share) (a : Standing) (command : Command) (share : Share) (standing : Standing) → slice_get k.tags cid ≡ Some (Flying c x a)
              → slice_get k.tags cid ≡ Some (Flying command share standing) → tag_changed cid (Ended c passed (Some x)) k ≡ tag_changed cid (Ended command passed (Some share)) k
          ends-so c x a command share standing one other =
              let both : Flying c x a ≡ Flying command share standing = some-same (Flying c x a) (Flying command share standing) (sym one ∙ other) in
              let commands : c ≡ command = cc in
              let shares : x ≡ share = cc in
              ap (λ (d : Command). tag_changed cid (Ended d passed (Some x)) k) commands ∙ ap (λ (d : Share). tag_changed cid (Ended command passed (Some d)) k) shares
