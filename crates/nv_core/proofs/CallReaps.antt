-- A Reap without memory: from the lane to the machine's call, and what follows of a call with the bytes that lie in a memory.
use Rattle.std.proofs.Common.{◌≡◌, ℕ, zero, suc, ◌+◌, ◌≤◌, Bool, true, false, ◌==◌, ◌&&◌, cond, List, [], ◌∷◌, ◌++◌, length, map, replicate, set, slice_get, take, Option, Some, None, Result, Ok, Err, IfOk, OnErr, arith, refl, sym, ap, ◌∙◌, subst}
use Rattle.std.proofs.lemmas.Option.{slice_get_past}
use Rattle.std.specs.Prelude.{◌↔◌, IsTrue}
use Rattle.std.specs.Result.{result_ok}
use Rattle.nv_core.proofs.CallSteps.{side-there}
use Rattle.nv_core.proofs.ReapAnswers.{compared, phase-small}
use Rattle.nv_core.proofs.SideTags.{changed-lane, lane-same, lane-twice, lane_put}
use Rattle.nv_core.specs.Front.{ComesTo, IsBeside, IsLive, IsLiveStep, IsReaped, with_side}
use Rattle.nv_core.specs.Reaping.{answer_of, answer_to, idle_at, is_wanted, names_command as names_there}
use Rattle.nv_core.specs.Tags.{is_flying as flying_there}
use Rattle.nv_entry.specs.Completion.{cid_of as completed_cid, phase_of, sqid_of, status_of}
use Rattle.nv_entry.specs.Status.{StatusField, bit}
use Rattle.nv_laws_sound.proofs.LastDwords.{alone, phase-alone, whole}
use Rattle.nv_laws_sound.proofs.Lists.{some-same}
use Rattle.nv_laws_sound.specs.Side.{Side, rung_with}
use Rattle.nv_laws_sound.specs.Unplaced.{after_unplaced, unplaced_lane}
use Rattle.nv_machine.proofs.InWorlds.{in-first}
use Rattle.nv_machine.proofs.PlaceCalls.{call-same, fetch-same, then-same}
use Rattle.nv_machine.proofs.ReapCalls.{drop-first, reap-by, reap-fetched, reap-is, reaped-in, take-first}
use Rattle.nv_machine.proofs.SideWorlds.{begun}
use Rattle.nv_machine.specs.Doing.{Called, Doing, for_one, lane_changed, replied, stray, tag_put}
use Rattle.nv_machine.specs.Effects.{Effect, effects_on}
use Rattle.nv_machine.specs.InWorld.{after_in, called_in, fetched_in, in_world, side_of}
use Rattle.nv_machine.specs.Machine.{call, called, ended_at, fetch, fetch_then, in_order, is_flying, is_new, names_command, reap, reaped_by}
use Rattle.nv_machine.specs.Unplaced.{AreSameButPlaces, ComeToSameButPlaces}
use Rattle.nv_model.proofs.MemoryLemmas.{bytes_from-append, bytes_from-list}
use Rattle.nv_model.specs.Controller.{Controller}
use Rattle.nv_model.specs.Memory.{byte_in, bytes_from}
use Rattle.nv_model.specs.Queue.{cqe_size}
use Rattle.nv_model.specs.declared.reply.Reply.{Reply}
use Rattle.nv_model.specs.declared.reply.Reply.TheVariants as reply
use Rattle.nv_world_model.proofs.Seats.{slice_get-set}
use Rattle.nv_world_model.specs.Area.{completion_slot, queue_pair}
use Rattle.nv_world_model.specs.Geometry.{Geometry}
use Rattle.nv_world_model.specs.Share.{Share}
use Rattle.nv_world_model.specs.Step.{After, completion_read, passed_on, reaped, step}
use Rattle.nv_world_model.specs.World.{Command, Ended, Flying, Free, Lane, Standing, Tag, Taken, World, tag_changed}
use Rattle.nv_world_model.specs.declared.event.Event.{Event}
use Rattle.nv_world_model.specs.declared.event.Event.TheVariants as event
use mathlib.Core.Bool.{beq}

-- a call that comes to a side, with a reply or without one
abbrev pub come_to : Option Reply → Side → Called
come_to answer s = record { now = begun s; reply = answer }

flying-same : (t : Option Tag) → is_flying t ≡ flying_there t
flying-same None = refl
flying-same (Some Free) = refl
flying-same (Some (Taken command reads)) = refl
flying-same (Some (Flying command share standing)) = refl
flying-same (Some (Ended command st share)) = refl

names-same : (lane : ℕ) (l : Lane) (completion : List ℕ) → names_command lane l completion ≡ names_there lane l completion
names-same lane l completion =
    ap (λ (b : Bool). sqid_of completion == queue_pair lane && b) (flying-same (slice_get l.tags (completed_cid completion)))

-- ---- the bytes

all-ends : (xs : List ℕ) → xs ++ [] ≡ xs
all-ends [] = refl
all-ends (x ∷ xs) = ap (λ (ys : List ℕ). x ∷ ys) (all-ends xs)

-- the four of a dword behind zeros
alone-is : (last : List ℕ) → length last ≡ 4 → alone last ≡ replicate 12 0 ++ last
alone-is (a ∷ b ∷ c ∷ d ∷ []) four = refl
alone-is [] four = cc
alone-is (a ∷ []) four = cc
alone-is (a ∷ b ∷ []) four = cc
alone-is (a ∷ b ∷ c ∷ []) four = cc
alone-is (a ∷ b ∷ c ∷ d ∷ e ∷ more) four = absurd (omega (arith, four))

-- what the code compares is whether the phase tag is the wanted one
pub new-told : (l : Lane) (last bytes : List ℕ) (p q : Bool) → length last ≡ 4 → bytes ≡ alone last → (IsTrue p ↔ (phase_of bytes ≡ 1)) → q ≡ l.phase
    → beq p q ≡ is_new l last
new-told l last bytes p q four is iff wants =
    compared (phase_of bytes) p q l.phase (phase-small bytes) iff wants
    ∙ ap (λ (xs : List ℕ). phase_of xs == bit l.phase) (is ∙ alone-is last four)

-- as many bytes as there are, of a memory that they are
taken-all : (xs : List ℕ) (n : ℕ) → length xs ≡ n → take n xs ≡ xs
taken-all [] zero many = refl
taken-all [] (suc n) many = cc
taken-all (x ∷ xs) zero many = cc
taken-all (x ∷ xs) (suc n) many = ap (λ (ys : List ℕ). x ∷ ys) (taken-all xs n (omega (arith, many)))

as-memory : (xs : List ℕ) (n : ℕ) → length xs ≡ n → xs ≡ bytes_from (byte_in xs) 0 n
unfolding byte_in
as-memory xs n many = sym (taken-all xs n many) ∙ sym (bytes_from-list xs 0 n (omega (arith, many)))

-- sixteen bytes are twelve and four
pub whole-is : (first last : List ℕ) → length first ≡ 12 → length last ≡ 4 → whole first last ≡ first ++ last
unfolding bytes_from
whole-is first last twelve four =
    let f : List ℕ = bytes_from (byte_in first) 0 12 in
    let l : List ℕ = bytes_from (byte_in last) 0 4 in
    ap (λ (xs : List ℕ). whole xs last) (as-memory first 12 twelve)
    ∙ ap (whole f) (as-memory last 4 four)
    ∙ ap (λ (xs : List ℕ). xs ++ l) (sym (as-memory first 12 twelve))
    ∙ ap (λ (xs : List ℕ). first ++ xs) (sym (as-memory last 4 four))

module _ (lane : ℕ) (l : Lane) (m : Doing) (first last : List ℕ) (four : length last ≡ 4) where
  -- by whether the phase tag is the wanted one
  reap-with : (new : Bool) → is_new l last ≡ new → reap lane l (last ++ first) m ≡ cond new (reaped_by lane l (first ++ last) m) (replied reply.Idle m)
  reap-with new is =
      ap (λ (xs : List ℕ). cond (is_new l xs) (reaped_by lane l (in_order (last ++ first)) m) (replied reply.Idle m)) (take-first last first four)
      ∙ ap (λ (b : Bool). cond b (reaped_by lane l (in_order (last ++ first)) m) (replied reply.Idle m)) is
      ∙ ap (λ (xs : List ℕ). cond new (reaped_by lane l xs m) (replied reply.Idle m))
      (ap (λ (xs : List ℕ). xs ++ take 4 (last ++ first)) (drop-first last first four) ∙ ap (λ (xs : List ℕ). first ++ xs) (take-first last first four))

-- ---- the code's answers

module _ (geometry : Geometry) (s old : Side) (lane : ℕ) (first last : List ℕ) (four : length last ≡ 4) (same : s ≡ old) where
  abbrev Comes : (before : Side) → Option Reply → (after : Side) → Type 0
  Comes before answer after = call geometry (event.Reap lane) (last ++ first) before ≡ come_to answer after

  abbrev by_lane : Option Lane → Called
  by_lane o = for_one o (begun s) (λ l. reap lane l (last ++ first) (begun s))

  call-by : (o : Option Lane) → slice_get s.lanes lane ≡ o → call geometry (event.Reap lane) (last ++ first) s ≡ by_lane o
  unfolding called
  call-by o found = ap by_lane found

  -- no such lane
  pub reap-nowhere : length s.lanes ≤ lane → Comes old (Some reply.Ignored) old
  reap-nowhere past = subst (λ (o : Side). Comes o (Some reply.Ignored) o) same (call-by None (slice_get_past s.lanes lane past))

  module _ (l : Lane) (found : slice_get s.lanes lane ≡ Some l) where
    call-when : (new : Bool) → is_new l last ≡ new → call geometry (event.Reap lane) (last ++ first) s
        ≡ cond new (reaped_by lane l (first ++ last) (begun s)) (replied reply.Idle (begun s))
    call-when new is = call-by (Some l) found ∙ reap-with lane l (begun s) first last four new is

    -- the lane as it was
    put-back : (i : ℕ) (answer : Option Reply) → i ≡ lane → Comes s answer s → Comes old answer (record s { lanes = set s.lanes i l })
    put-back i answer at is =
        subst (λ (o : Side). Comes o answer (record s { lanes = set s.lanes i l })) same
        (subst (λ (n : ℕ). Comes s answer (record s { lanes = set s.lanes n l })) (sym at)
        (is ∙ ap (λ (m : Doing). let c : Called = record { now = m; reply = answer } in c) (lane-same lane l (begun s) found)))

    -- it waits for none
    pub reap-unwanted : (i : ℕ) → i ≡ lane → is_new l last ≡ false → Comes old (Some reply.Idle) (record s { lanes = set s.lanes i l })
    reap-unwanted i at is = put-back i (Some reply.Idle) at (call-when false is)

    module _ (is : is_new l last ≡ true) where
      reap-named : (names : Bool) → names_there lane l (first ++ last) ≡ names → call geometry (event.Reap lane) (last ++ first) s
          ≡ cond names (replied reply.Done (ended_at (slice_get l.tags (completed_cid (first ++ last))) (status_of (first ++ last)) lane
          (completed_cid (first ++ last)) (lane_changed lane completion_read (begun s)))) (stray (begun s))
      reap-named names by =
          call-when true is
          ∙ ap (λ (b : Bool). cond b (replied reply.Done (ended_at (slice_get l.tags (completed_cid (first ++ last))) (status_of (first ++ last)) lane
          (completed_cid (first ++ last)) (lane_changed lane completion_read (begun s)))) (stray (begun s)))
          (names-same lane l (first ++ last) ∙ by)

      -- its completion names no command
      pub reap-astray : (i : ℕ) → i ≡ lane → names_there lane l (first ++ last) ≡ false → Comes old None (record s { lanes = set s.lanes i l })
      reap-astray i at by = put-back i None at (reap-named false by)

      -- it has ended its tag
      pub reap-ended : (i cid : ℕ) (mid l_new : Lane) (completion : List ℕ) (st passed : StatusField) (command : Command) (share : Share) (standing : Standing)
          → i ≡ lane → completion ≡ first ++ last → names_there lane l completion ≡ true → cid ≡ completed_cid completion
          → slice_get l.tags cid ≡ Some (Flying command share standing) → st ≡ status_of completion → passed ≡ passed_on st
          → ((c : Command) (x : Share) (at : Standing) → slice_get l.tags cid ≡ Some (Flying c x at) → mid ≡ tag_changed cid (Ended c passed (Some x)) l)
          → l_new ≡ completion_read mid → Comes old (Some reply.Done) (record s { lanes = set s.lanes i l_new })
      reap-ended i cid mid l_new completion st passed command share standing at whole by named flies told on ends reads =
          let t : Tag = Ended command (passed_on (status_of completion)) (Some share) in
          let behind : Lane = completion_read l in
          let c : Called = replied reply.Done (begun (record s { lanes = set s.lanes lane (tag_changed cid t behind) })) in
          let lane_is : l_new ≡ tag_changed cid t behind =
          reads ∙ ap completion_read (ends command share standing flies
          ∙ ap (λ (x : StatusField). tag_changed cid (Ended command x (Some share)) l) (on ∙ ap passed_on told)) in
          let ended : List ℕ → ℕ → Option Tag → Called = λ bytes n o. replied reply.Done (ended_at o (status_of bytes) lane n (lane_changed lane completion_read (begun s))) in
          subst (λ (o : Side). Comes o (Some reply.Done) (record s { lanes = set s.lanes i l_new })) same
          (subst (λ (n : ℕ). Comes s (Some reply.Done) (record s { lanes = set s.lanes n l_new })) (sym at)
          (reap-named true (ap (names_there lane l) (sym whole) ∙ by)
          ∙ ap (λ (bytes : List ℕ). ended bytes (completed_cid bytes) (slice_get l.tags (completed_cid bytes))) (sym whole)
          ∙ ap (λ (n : ℕ). ended completion n (slice_get l.tags n)) (sym named)
          ∙ ap (ended completion cid) flies
          ∙ ap (λ (m : Doing). replied reply.Done (tag_put lane cid t m)) (changed-lane lane completion_read (begun s) l found)
          ∙ ap (λ (m : Doing). replied reply.Done m)
          (changed-lane lane (tag_changed cid t) (lane_put lane behind (begun s)) behind (slice_get-set s.lanes lane l behind found)
          ∙ lane-twice lane behind (tag_changed cid t behind) (begun s))
          ∙ ap (λ (k : Lane). replied reply.Done (begun (record s { lanes = set s.lanes lane k }))) (sym lane_is)))

-- no such lane, whatever was fetched
pub called-nowhere : (geometry : Geometry) (s : Side) (lane : ℕ) (fetched : List ℕ) → slice_get s.lanes lane ≡ None
    → call geometry (event.Reap lane) fetched s ≡ come_to (Some reply.Ignored) s
unfolding called
called-nowhere geometry s lane fetched none = ap (λ (o : Option Lane). for_one o (begun s) (λ l. reap lane l fetched (begun s))) none

-- where the dword that was fetched has not the wanted phase tag
pub unwanted-idle : (geometry : Geometry) (s : Side) (lane : ℕ) (last : List ℕ) → length last ≡ 4 → is_wanted (slice_get s.lanes lane) last ≡ false
    → call geometry (event.Reap lane) last s ≡ replied (idle_at (slice_get s.lanes lane)) (begun s)
unfolding called
unwanted-idle geometry s lane last four not_new = by (slice_get s.lanes lane) not_new
  where
    by : (o : Option Lane) → is_wanted o last ≡ false → for_one o (begun s) (λ l. reap lane l last (begun s)) ≡ replied (idle_at o) (begun s)
    by None is = refl
    by (Some l) is = ap (λ (xs : List ℕ). reap lane l xs (begun s)) (sym (all-ends last)) ∙ reap-with lane l (begun s) [] last four false is

-- ---- with the bytes of a memory

-- the bytes that a Reap fetches
abbrev pub reads_of : Geometry → (lane : ℕ) → Side → (host : ℕ → ℕ) → List ℕ
reads_of geometry lane s host =
    (let first = map host (fetch geometry (event.Reap lane) s) in first ++ map host (fetch_then geometry (event.Reap lane) s first))

module _ (geometry : Geometry) (side : Side) (lane : ℕ) (l : Lane) (memory last : List ℕ) (found : slice_get side.lanes lane ≡ Some l)
    (dword : last ≡ bytes_from (byte_in memory) (completion_slot geometry.mediator lane l.head + 12) 4) (four : length last ≡ 4) where
  abbrev slot : ℕ
  slot = completion_slot geometry.mediator lane l.head

  abbrev there : List ℕ
  there = bytes_from (byte_in memory) slot 16

  call-there : (bytes : List ℕ) → call geometry (event.Reap lane) bytes side ≡ reap lane l bytes (begun side)
  unfolding called
  call-there bytes = ap (λ (o : Option Lane). for_one o (begun side) (λ k. reap lane k bytes (begun side))) found

  new-there : (phase_of there == bit l.phase) ≡ is_new l last
  new-there = ap (λ (n : ℕ). n == bit l.phase) (sym (phase-alone (byte_in memory) slot last dword) ∙ ap phase_of (alone-is last four))

  by-phase : (new : Bool) → is_new l last ≡ new → call geometry (event.Reap lane) (reads_of geometry lane side (byte_in memory)) side
      ≡ cond new (reaped_by lane l there (begun side)) (replied reply.Idle (begun side))
  by-phase new is =
      call-there (reads_of geometry lane side (byte_in memory))
      ∙ ap (λ (xs : List ℕ). reap lane l xs (begun side)) (reap-fetched geometry (byte_in memory) side lane l found)
      ∙ reap-by (byte_in memory) slot lane l (begun side) new (new-there ∙ is)

  -- where its last dword has not the wanted phase tag
  pub reads-idle : is_new l last ≡ false → call geometry (event.Reap lane) (reads_of geometry lane side (byte_in memory)) side ≡ come_to (Some reply.Idle) side
  reads-idle is = by-phase false is

  -- and where it has
  pub reads-both : (first : List ℕ) → first ≡ bytes_from (byte_in memory) (completion_slot geometry.mediator lane l.head) 12 → is_new l last ≡ true
      → call geometry (event.Reap lane) (reads_of geometry lane side (byte_in memory)) side ≡ call geometry (event.Reap lane) (last ++ first) side
  reads-both first others is =
      by-phase true is
      ∙ ap (λ (xs : List ℕ). reaped_by lane l xs (begun side))
      (bytes_from-append (byte_in memory) slot 12 4
      ∙ ap (λ (xs : List ℕ). xs ++ bytes_from (byte_in memory) (slot + 12) 4) (sym others) ∙ ap (λ (xs : List ℕ). first ++ xs) (sym dword))
      ∙ sym (call-there (last ++ first) ∙ reap-with lane l (begun side) first last four true is)

module _ (geometry : Geometry) (lane : ℕ) (old new : Side) (memory : List ℕ) (answer : Option Reply)
    (told : call geometry (event.Reap lane) (reads_of geometry lane old (byte_in memory)) old ≡ come_to answer new) where
  abbrev e : Event
  e = event.Reap lane

  abbrev host : ℕ → ℕ
  host = byte_in memory

  abbrev made : Called
  made = call geometry e (reads_of geometry lane old host) old

  -- ---- by the slot that is read next

  module _ (l : Lane) (found : slice_get old.lanes lane ≡ Some l) where
    abbrev place : ℕ
    place = completion_slot geometry.mediator lane l.head

    abbrev entry : List ℕ
    entry = bytes_from host place cqe_size

    abbrev after : Doing
    after = ended_at (slice_get l.tags (completed_cid entry)) (status_of entry) lane (completed_cid entry) (lane_changed lane completion_read (begun old))

    abbrev chosen : (new names : Bool) → Called
    chosen new names = cond new (cond names (replied reply.Done after) (stray (begun old))) (replied reply.Idle (begun old))

    made-is : made ≡ chosen (phase_of entry == bit l.phase) (names_there lane l entry)
    unfolding called
    made-is =
        ap (λ (o : Option Lane). for_one o (begun old) (λ k. reap lane k (reads_of geometry lane old host) (begun old))) found
        ∙ ap (λ (xs : List ℕ). reap lane l xs (begun old)) (reap-fetched geometry host old lane l found)
        ∙ reap-by host place lane l (begun old) (phase_of entry == bit l.phase) refl
        ∙ ap (chosen (phase_of entry == bit l.phase)) (names-same lane l entry)

    chosen-reply : (new names : Bool) → (chosen new names).reply ≡ cond new (cond names (Some reply.Done) None) (Some reply.Idle)
    chosen-reply true true = refl
    chosen-reply true false = refl
    chosen-reply false names = refl

    chosen-quiet : (new names : Bool) → ((chosen new names).reply ≡ Some reply.Done → ⊥) → (chosen new names).now ≡ begun old
    chosen-quiet true true never = absurd (never refl)
    chosen-quiet true false never = refl
    chosen-quiet false names never = refl

    chosen-done : (new names : Bool) → (chosen new names).reply ≡ Some reply.Done → (chosen new names).now ≡ after
    chosen-done true true done = refl
    chosen-done true false done = cc
    chosen-done false names done = cc

    there-answer : made.reply ≡ answer_to lane l entry
    there-answer = ap (λ (c : Called). c.reply) made-is ∙ chosen-reply (phase_of entry == bit l.phase) (names_there lane l entry)

    there-quiet : (made.reply ≡ Some reply.Done → ⊥) → made.now ≡ begun old
    there-quiet never =
        ap (λ (c : Called). c.now) made-is
        ∙ chosen-quiet (phase_of entry == bit l.phase) (names_there lane l entry) (λ done. never (ap (λ (c : Called). c.reply) made-is ∙ done))

    there-done : made.reply ≡ Some reply.Done → made.now ≡ after
    there-done done =
        ap (λ (c : Called). c.now) made-is
        ∙ chosen-done (phase_of entry == bit l.phase) (names_there lane l entry) (sym (ap (λ (c : Called). c.reply) made-is) ∙ done)

  nowhere : slice_get old.lanes lane ≡ None → made ≡ replied reply.Ignored (begun old)
  nowhere none = called-nowhere geometry old lane (reads_of geometry lane old host) none

  replied-as : made.reply ≡ answer
  replied-as = ap (λ (c : Called). c.reply) told

  pub told-answer : answer ≡ answer_of geometry lane (slice_get old.lanes lane) memory
  told-answer = sym replied-as ∙ by (slice_get old.lanes lane) refl
    where
      by : (o : Option Lane) → slice_get old.lanes lane ≡ o → made.reply ≡ answer_of geometry lane o memory
      by None none = ap (λ (c : Called). c.reply) (nowhere none)
      by (Some l) found = there-answer l found

  pub told-same : (answer ≡ Some reply.Done → ⊥) → new ≡ old
  told-same never = ap (λ (c : Called). c.now.side) (sym told) ∙ ap (λ (m : Doing). m.side) (by (slice_get old.lanes lane) refl)
    where
      by : (o : Option Lane) → slice_get old.lanes lane ≡ o → made.now ≡ begun old
      by None none = ap (λ (c : Called). c.now) (nowhere none)
      by (Some l) found = there-quiet l found (λ done. never (sym replied-as ∙ done))

  -- the completion has ended its tag in each world that has the side
  pub told-ended : answer ≡ Some reply.Done → IsReaped geometry lane old new memory
  unfolding effects_on
  told-ended done w k on there =
      let sides = side-there old memory w on in
      let found : slice_get old.lanes lane ≡ Some k = ap (λ (ls : List Lane). slice_get ls lane) (sym on.lanes) ∙ there in
      let into : in_world w (begun old) ≡ w = ap (λ (s : Side). in_world w (begun s)) (sym sides) ∙ in-first w in
      ap (λ (h : ℕ → ℕ). let v : World = record (with_side new memory w) { host = h } in v) (sym on.host)
      ∙ ap (in_world w) (ap (λ (c : Called). c.now) (sym told) ∙ there-done k found (replied-as ∙ done))
      ∙ reaped-in w lane (entry k found) k (begun old) into there
      ∙ ap (λ (h : ℕ → ℕ). reaped lane (bytes_from h (completion_slot geometry.mediator lane k.head) cqe_size) w) (sym on.host)

  -- ---- in each world that is as events leave it, whose side is the same but for places

  module _ (w : World) (on : IsBeside old memory w) (live : IsLive geometry w) where
    abbrev s : Side
    s = side_of w

    same : AreSameButPlaces old s
    same = record { lanes = sym on.lanes; tails = sym on.tails; controllers = sym on.controllers }

    fetches : fetched_in geometry e w ≡ reads_of geometry lane old host
    fetches =
        ap (reads_of geometry lane s) on.host
        ∙ ap (λ (xs : List ℕ). map host xs ++ map host (fetch_then geometry e s (map host xs))) (sym (fetch-same old s same geometry e))
        ∙ ap (λ (xs : List ℕ). map host (fetch geometry e old) ++ map host xs) (sym (then-same old s same geometry e (map host (fetch geometry e old))))

    abbrev beside : Called
    beside = call geometry e (reads_of geometry lane old host) s

    calls : ComeToSameButPlaces made beside
    calls = call-same old s same geometry e (reads_of geometry lane old host)

    law : (o : Option Reply) → answer ≡ o → after_in w beside o ≡ Some (step geometry e w)
    law o is =
        ap (after_in w beside) (sym is ∙ sym replied-as ∙ calls.reply)
        ∙ ap (λ (xs : List ℕ). called_in w (call geometry e xs s)) (sym fetches)
        ∙ reap-is geometry w live.consistent live.phased lane

    comes : (r : Reply) → answer ≡ Some r → ComesTo geometry e w r new memory
    unfolding effects_on
    comes r is =
        let sides : AreSameButPlaces new beside.now.side = subst (λ (c : Called). AreSameButPlaces c.now.side beside.now.side) told calls.sides in
        let effects : beside.now.effects ≡ [] = sym calls.effects ∙ ap (λ (c : Called). c.now.effects) told in
        let with_parts : (ℕ → ℕ) → List ℕ → List Lane → List Controller → After =
        λ h ts ls cs. record { world = record w { host = h; device = rung_with ts w.device; lanes = ls; controllers = cs }; reply = r } in
        ap (λ (h : ℕ → ℕ). with_parts h new.tails (map unplaced_lane new.lanes) new.controllers)
        (sym on.host ∙ ap (λ (es : List Effect). effects_on es w.host) (sym effects))
        ∙ ap (λ (ts : List ℕ). with_parts (effects_on beside.now.effects w.host) ts (map unplaced_lane new.lanes) new.controllers) sides.tails
        ∙ ap (λ (ls : List Lane). with_parts (effects_on beside.now.effects w.host) beside.now.side.tails ls new.controllers) sides.lanes
        ∙ ap (with_parts (effects_on beside.now.effects w.host) beside.now.side.tails (map unplaced_lane beside.now.side.lanes)) sides.controllers
        ∙ ap after_unplaced (some-same _ (step geometry e w) (law (Some r) is))

    pub told-stray : answer ≡ None → ⊥
    told-stray none = (let bad = law None none in cc)

  -- it is the event there
  pub told-live : (r : Reply) → answer ≡ Some r → IsLiveStep geometry e old memory r new memory
  told-live r is w on live = comes w on live r is

-- ---- a result, by its reply

pub ok-by : {E : Type 0} (r : Result Reply E) (P : Reply → Type 0) → ((x : Reply) → result_ok r ≡ Some x → P x) → IfOk r P
ok-by (Ok x) P each = each x refl
ok-by (Err e) P each = tt

pub err-by : {E : Type 0} (r : Result Reply E) (Q : Type 0) → (result_ok r ≡ None → Q) → OnErr r Q
err-by (Ok x) Q none = tt
err-by (Err e) Q none = none refl

pub done-by : {E : Type 0} (r : Result Reply E) → result_ok r ≡ Some reply.Done → r ≡ Ok reply.Done
done-by (Ok x) is = ap (λ (y : Reply). Ok y) (some-same x reply.Done is)
done-by (Err e) is = cc
