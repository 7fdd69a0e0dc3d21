-- Reap in a world.
use Rattle.std.proofs.Common.{◌≡◌, ℕ, suc, zero, ◌+◌, Bool, true, false, not, ◌&&◌, ◌==◌, cond, List, [], ◌∷◌, ◌++◌, drop, length, map, replicate, slice_get, take, Option, Some, None}
use Rattle.std.proofs.Common.{arith, eq-eqb, refl, sym, ap, ◌∙◌}
use Rattle.std.specs.List.{range_with_len}
use Rattle.nv_entry.specs.Completion.{cid_of as completed_cid, phase_of, sqid_of, status_of}
use Rattle.nv_entry.specs.Layout.{dword, number_at}
use Rattle.nv_entry.specs.Status.{bit}
use Rattle.nv_laws_sound.proofs.Lists.{slice_get-below, slice_get-there}
use Rattle.nv_laws_sound.proofs.ReapEvents.{answered-at}
use Rattle.nv_laws_sound.proofs.Rings.{between-head, far-some}
use Rattle.nv_laws_sound.proofs.phases.Rounds.{slot-tells}
use Rattle.nv_laws_sound.specs.Consistent.{IsConsistent, IsLane}
use Rattle.nv_laws_sound.specs.Phased.{ArePhased}
use Rattle.nv_laws_sound.specs.Side.{Side}
use Rattle.nv_machine.specs.Doing.{Doing, for_one, lane_changed, replied, stray}
use Rattle.nv_machine.specs.InWorld.{called_in, fetched_in, in_world, side_of}
use Rattle.nv_machine.specs.Machine.{called, ended_at, fetch, fetch_then, from_one, in_order, is_flying, is_new, names_command, reap, reaped_by}
use Rattle.nv_machine.proofs.InWorlds.{Is, in-first}
use Rattle.nv_model.proofs.MemoryLemmas.{bytes_from-append}
use Rattle.nv_model.proofs.Shown.{length-bytes_from}
use Rattle.nv_model.specs.Memory.{bytes_from}
use Rattle.nv_model.specs.Queue.{is_empty}
use Rattle.nv_model.specs.declared.reply.Reply.TheVariants as reply
use Rattle.nv_world_model.specs.Area.{completion_slot, queue_pair}
use Rattle.nv_world_model.specs.Device.{DeviceLane}
use Rattle.nv_world_model.specs.Geometry.{Geometry}
use Rattle.nv_world_model.specs.Seat.{completion_at}
use Rattle.nv_world_model.specs.Step as step
use Rattle.nv_world_model.specs.World.{Ended, Flying, Free, Lane, Tag, Taken, World, tag_in, with_lane, with_tag}
use Rattle.nv_world_model.specs.declared.event.Event.TheVariants as event

-- ---- the bytes

-- bytes at addresses in a row
row-read : (host : ℕ → ℕ) (at len : ℕ) → map host (range_with_len at len) ≡ bytes_from host at len
unfolding bytes_from
row-read host at zero = refl
row-read host at (suc len) =
    let next : at + 1 ≡ suc at = omega arith in
    ap (λ (xs : List ℕ). host at ∷ xs) (row-read host (at + 1) len ∙ ap (λ (a : ℕ). bytes_from host a len) next)

-- the dword that is fetched first has the phase tag
phase-first : (host : ℕ → ℕ) (slot : ℕ) → phase_of (replicate 12 0 ++ bytes_from host (slot + 12) 4) ≡ phase_of (bytes_from host slot 16)
unfolding bytes_from dword number_at
phase-first host slot = ap phase_of (sym (bytes_from-append host slot 12 4))

-- four bytes, and those behind them
pub take-first : (xs ys : List ℕ) → length xs ≡ 4 → take 4 (xs ++ ys) ≡ xs
take-first (a ∷ b ∷ c ∷ d ∷ []) ys is = refl
take-first [] ys is = cc
take-first (a ∷ []) ys is = cc
take-first (a ∷ b ∷ []) ys is = cc
take-first (a ∷ b ∷ c ∷ []) ys is = cc
take-first (a ∷ b ∷ c ∷ d ∷ e ∷ xs) ys is = absurd (omega (arith, is))

pub drop-first : (xs ys : List ℕ) → length xs ≡ 4 → drop 4 (xs ++ ys) ≡ ys
drop-first (a ∷ b ∷ c ∷ d ∷ []) ys is = refl
drop-first [] ys is = cc
drop-first (a ∷ []) ys is = cc
drop-first (a ∷ b ∷ []) ys is = cc
drop-first (a ∷ b ∷ c ∷ []) ys is = cc
drop-first (a ∷ b ∷ c ∷ d ∷ e ∷ xs) ys is = absurd (omega (arith, is))

-- ---- the call with these bytes

module _ (host : ℕ → ℕ) (slot lane : ℕ) (l : Lane) where
  abbrev first : List ℕ
  first = bytes_from host (slot + 12) 4

  abbrev rest : List ℕ
  rest = bytes_from host slot 12

  abbrev whole : List ℕ
  whole = bytes_from host slot 16

  -- what is fetched
  pub fetched : List ℕ
  fetched = first ++ cond (is_new l first) rest []

  new-is : is_new l first ≡ (phase_of whole == bit l.phase)
  new-is = ap (λ (n : ℕ). n == bit l.phase) (phase-first host slot)

  -- where it is new it is read whole, and else not at all
  pub reap-by : (m : Doing) (new : Bool) → (phase_of whole == bit l.phase) ≡ new
      → reap lane l fetched m ≡ cond new (reaped_by lane l whole m) (replied reply.Idle m)
  unfolding fetched
  reap-by m true is =
      let new : is_new l first ≡ true = new-is ∙ is in
      let len : length first ≡ 4 = length-bytes_from host (slot + 12) 4 in
      ap (λ (b : Bool). reap lane l (first ++ cond b rest []) m) new
      ∙ ap (λ (xs : List ℕ). cond (is_new l xs) (reaped_by lane l (in_order (first ++ rest)) m) (replied reply.Idle m)) (take-first first rest len)
      ∙ ap (λ (b : Bool). cond b (reaped_by lane l (in_order (first ++ rest)) m) (replied reply.Idle m)) new
      ∙ ap (λ (xs : List ℕ). reaped_by lane l xs m)
      (ap (λ (xs : List ℕ). xs ++ take 4 (first ++ rest)) (drop-first first rest len) ∙ ap (λ (xs : List ℕ). rest ++ xs) (take-first first rest len)
      ∙ sym (bytes_from-append host slot 12 4))
  reap-by m false is =
      let old : is_new l first ≡ false = new-is ∙ is in
      ap (λ (xs : List ℕ). cond (is_new l xs) (reaped_by lane l (in_order (first ++ cond (is_new l first) rest [])) m) (replied reply.Idle m))
      (take-first first (cond (is_new l first) rest []) (length-bytes_from host (slot + 12) 4))
      ∙ ap (λ (b : Bool). cond b (reaped_by lane l (in_order (first ++ cond (is_new l first) rest [])) m) (replied reply.Idle m)) old

-- the bytes that a Reap fetches from a memory
pub reap-fetched : (geometry : Geometry) (host : ℕ → ℕ) (s : Side) (lane : ℕ) (l : Lane) → slice_get s.lanes lane ≡ Some l
    → (let first = map host (fetch geometry (event.Reap lane) s) in first ++ map host (fetch_then geometry (event.Reap lane) s first))
    ≡ fetched host (completion_slot geometry.mediator lane l.head) lane l
unfolding fetch fetch_then fetched
reap-fetched geometry host s lane l found =
    let slot : ℕ = completion_slot geometry.mediator lane l.head in
    let first : List ℕ = bytes_from host (slot + 12) 4 in
    ap (λ (o : Option Lane). let first = map host (from_one o (λ l. range_with_len (completion_slot geometry.mediator lane l.head + 12) 4)) in
    first ++ map host (from_one o (λ l. cond (is_new l first) (range_with_len (completion_slot geometry.mediator lane l.head) 12) []))) found
    ∙ ap (λ (xs : List ℕ). xs ++ map host (cond (is_new l xs) (range_with_len slot 12) [])) (row-read host (slot + 12) 4)
    ∙ ap (λ (xs : List ℕ). first ++ xs) (then-read (is_new l first) slot)
  where
    then-read : (b : Bool) (slot : ℕ) → map host (cond b (range_with_len slot 12) []) ≡ cond b (bytes_from host slot 12) []
    then-read true slot = row-read host slot 12
    then-read false slot = refl

-- a completion that was read ends its tag in the world, too
module _ (w : World) (lane : ℕ) (completion : List ℕ) where
  ended-in : (t : Option Tag) (cid : ℕ) (v : World) (k : Doing) → in_world w k ≡ v
      → in_world w (ended_at t (status_of completion) lane cid k) ≡ step.ended_at t (status_of completion) lane cid v
  ended-in None cid v k is = is
  ended-in (Some Free) cid v k is = is
  ended-in (Some (Taken command reads)) cid v k is = is
  ended-in (Some (Flying command share standing)) cid v k is =
      ap (with_tag lane cid (Ended command (step.passed_on (status_of completion)) (Some share))) is
  ended-in (Some (Ended command st share)) cid v k is = is

  pub reaped-in : (l : Lane) (m : Doing) → in_world w m ≡ w → slice_get w.lanes lane ≡ Some l
      → in_world w (ended_at (slice_get l.tags (completed_cid completion)) (status_of completion) lane (completed_cid completion)
      (lane_changed lane step.completion_read m)) ≡ step.reaped lane completion w
  unfolding step.reaped
  reaped-in l m into found =
      ended-in (slice_get l.tags (completed_cid completion)) (completed_cid completion) (with_lane lane step.completion_read w)
      (lane_changed lane step.completion_read m) (ap (with_lane lane step.completion_read) into)
      ∙ ap (λ (o : Option Lane). step.ended_at (tag_in o (completed_cid completion)) (status_of completion) lane (completed_cid completion)
      (with_lane lane step.completion_read w)) (sym found)

-- ---- a lane of a world that is as events leave it

module _ (geometry : Geometry) (w : World) (consistent : IsConsistent geometry w) (phased : ArePhased geometry w) (lane : ℕ) (l : Lane) (d : DeviceLane)
    (found : slice_get w.lanes lane ≡ Some l) (there : slice_get w.device lane ≡ Some d) where
  abbrev slot : ℕ
  slot = completion_slot geometry.mediator lane l.head

  abbrev completion : List ℕ
  completion = completion_at geometry w lane l.head

  fine : IsLane geometry lane w.host l d
  fine = consistent.of_tags.lanes lane l d found there

  new-tells : (phase_of completion == bit l.phase) ≡ not (is_empty l.head d.posted)
  new-tells = sym (slot-tells geometry w.host lane l.head l.phase d.posted d.phase fine.positions.read (phased lane l d found there))

  -- where one waits it names a command
  waiting-named : is_empty l.head d.posted ≡ false → names_command lane l completion ≡ true
  waiting-named some =
      let positions = fine.positions in
      let tags = positions.tags in
      let sized = positions.held in
      let next = fine.answered l.head (between-head l.head d.posted positions.read positions.posted
      (far-some l.head d.posted positions.read positions.posted (apart l.head d.posted some))) in
      let among = slice_get-below l.tags next.tag next.there next.is in
      let held = slice_get-there d.held next.tag (omega (arith, tags, sized, among)) in
      let a = answered-at geometry lane next.tag l.head w.host l.head d held.0 next.there (fine.tags next.tag next.there held.0 next.is held.1) next.stands in
      let flies : is_flying (slice_get l.tags (completed_cid completion)) ≡ true =
      ap (λ (n : ℕ). is_flying (slice_get l.tags n)) a.identifier ∙ ap is_flying (next.is ∙ ap (λ (t : Tag). Some t) a.flies) in
      ap (λ (b : Bool). b && is_flying (slice_get l.tags (completed_cid completion))) (eq-eqb (sqid_of completion) (queue_pair lane) a.queue) ∙ flies
    where
      apart : (head posted : ℕ) → is_empty head posted ≡ false → head ≡ posted → ⊥
      apart head posted differ same = (let is : is_empty head posted ≡ true = eq-eqb head posted same in cc)

  -- ---- the call

  read-is : (m : Doing) → in_world w m ≡ w → Is w (reap lane l (fetched w.host slot lane l) m) (step.reap geometry lane l d w)
  read-is m into = by (is_empty l.head d.posted) refl
    where
      by : (empty : Bool) → is_empty l.head d.posted ≡ empty → Is w (reap lane l (fetched w.host slot lane l) m) (step.reap geometry lane l d w)
      by true none =
          ap (called_in w) (reap-by w.host slot lane l m false (new-tells ∙ ap not none))
          ∙ ap (λ (v : World). let a : step.After = record { world = v; reply = reply.Idle } in Some a) into
          ∙ ap (λ (b : Bool). Some (cond b (step.replied reply.Idle w) (step.replied reply.Done (step.reaped lane completion w)))) (sym none)
      by false some =
          ap (called_in w) (reap-by w.host slot lane l m true (new-tells ∙ ap not some))
          ∙ ap (λ (b : Bool). called_in w (cond b (replied reply.Done (ended_at (slice_get l.tags (completed_cid completion)) (status_of completion) lane
          (completed_cid completion) (lane_changed lane step.completion_read m))) (stray m))) (waiting-named some)
          ∙ ap (λ (v : World). let a : step.After = record { world = v; reply = reply.Done } in Some a) (reaped-in w lane completion l m into found)
          ∙ ap (λ (b : Bool). Some (cond b (step.replied reply.Idle w) (step.replied reply.Done (step.reaped lane completion w)))) (sym some)

-- ---- the event

module _ (geometry : Geometry) (w : World) (consistent : IsConsistent geometry w) (phased : ArePhased geometry w) where
  abbrev begun : Doing
  begun = record { side = side_of w; effects = [] }

  pub reap-is : (lane : ℕ)
      → Is w (called geometry (event.Reap lane) (fetched_in geometry (event.Reap lane) w) begun) (step.step geometry (event.Reap lane) w)
  unfolding called step.step
  reap-is lane = by (slice_get w.lanes lane) refl
    where
      by : (o : Option Lane) → slice_get w.lanes lane ≡ o
          → Is w (for_one o begun (λ l. reap lane l (fetched_in geometry (event.Reap lane) w) begun))
          (step.for_one o w (λ l. step.for_one (slice_get w.device lane) w (λ d. step.reap geometry lane l d w)))
      by None none = ap (λ (v : World). let a : step.After = record { world = v; reply = reply.Ignored } in Some a) (in-first w)
      by (Some l) found =
          let sides = consistent.of_tags.sides in
          let below = slice_get-below w.lanes lane l found in
          let d = slice_get-there w.device lane (omega (arith, sides, below)) in
          ap (λ (xs : List ℕ). called_in w (reap lane l xs begun)) (reap-fetched geometry w.host (side_of w) lane l found)
          ∙ read-is geometry w consistent phased lane l d.0 found d.1 begun (in-first w)
          ∙ ap (λ (x : Option DeviceLane). Some (step.for_one x w (λ d. step.reap geometry lane l d w))) (sym d.1)
