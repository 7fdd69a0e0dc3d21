-- Events that are answered one after another, and the lines of their replies
use Rattle.std.proofs.Common.{◌≡◌, ℕ, ◌+◌, ◌<◌, suc, List, [], ◌∷◌, ◌++◌, length, drop, get_or, Option, Result, Ok, Err, OnOk, IsTrue, refl, sym, ap, ◌∙◌, arith, append_assoc, inl, inr, subst, length-append}
use Rattle.std.proofs.Math.Seq.{drop-cons}
use Rattle.std.proofs.lemmas.List.{append-nil}
use Rattle.std.specs.Io.KnownBytes.{Appends}
use Rattle.nv_mediator.specs.Hosted.{Hosted, IsAtStart, IsMade, hosted_world, may_want, setup_of}
use Rattle.nv_model.specs.declared.reply.Reply.{Reply}
use Rattle.nv_model.specs.declared.reply.Reply.TheVariants as reply
use Rattle.nv_print.proofs.Growing.{Appends-nothing, Appends-then}
use Rattle.nv_world_model.specs.Geometry.{Geometry}
use Rattle.nv_world_model.specs.SetUp.{SetUp, world_at_start}
use Rattle.nv_world_model.specs.World.{World}
use Rattle.nv_world_model.specs.declared.event.Event.{Event}
use Rattle.nv_replay.specs.Opening.{ReplayValue}
use Rattle.nv_replay.specs.Shown.{AreAnswered, IsAnswered, PrintsReplay, PrintsStep, count_line, reply_line, reply_lines, shown}

-- the line of one more reply
pub reply_lines-then : (n : ℕ) (replies : List Reply) (reply : Reply)
    → reply_lines n (replies ++ reply ∷ []) ≡ reply_lines n replies ++ reply_line (n + length replies) reply
unfolding reply_lines
reply_lines-then n [] reply =
    let same : n + 0 ≡ n = omega arith in
    rw same (append-nil (reply_line n reply))
reply_lines-then n (first ∷ replies) reply =
    let same : n + 1 + length replies ≡ n + length (first ∷ replies) = omega arith in
    rw (reply_lines-then (n + 1) replies reply, same)
    (sym (append_assoc (reply_line n first) (reply_lines (n + 1) replies) (reply_line (n + length (first ∷ replies)) reply)))

-- these replies answer the events so far: whatever answers those that are left from here answers them all behind these
abbrev pub AnswersSoFar : Geometry → (first : World) → (all : List Event) → List Reply → (now : World) → (left : List Event) → Type 0
AnswersSoFar geometry first all replies now left =
    (more : List Reply) (last : World)
    → AreAnswered geometry now left more last → AreAnswered geometry first all (replies ++ more) last

-- before the first event
pub AnswersSoFar-none : (geometry : Geometry) (first : World) (all : List Event) → AnswersSoFar geometry first all [] first all
AnswersSoFar-none geometry first all more last answered = answered

-- one more event
pub AnswersSoFar-then : (geometry : Geometry) (first now next : World) (all : List Event) (replies : List Reply)
    (event : Event) (reply : Reply) (left : List Event)
    → AnswersSoFar geometry first all replies now (event ∷ left) → IsAnswered geometry now event reply next
    → AnswersSoFar geometry first all (replies ++ reply ∷ []) next left
unfolding AreAnswered
AnswersSoFar-then geometry first now next all replies event reply left so_far answered more last rest =
    rw append_assoc (so_far (reply ∷ more) last (next, answered, rest))

-- behind the last event
pub AnswersSoFar-all : (geometry : Geometry) (first last : World) (all : List Event) (replies : List Reply)
    → AnswersSoFar geometry first all replies last [] → AreAnswered geometry first all replies last
unfolding AreAnswered
AnswersSoFar-all geometry first last all replies so_far = rw append-nil at (so_far [] last refl)

-- ---- along a mediator

-- the events that are left begin with the next one
pub drop-next : (all : List Event) (at : ℕ) (e : Event) → at < length all → e ≡ get_or all at e → drop at all ≡ e ∷ drop (at + 1) all
drop-next all at e below is =
    let next : suc at ≡ at + 1 = omega arith in
    drop-cons all at e below ∙ ap (λ x. x ∷ drop (suc at) all) (sym is) ∙ ap (λ n. e ∷ drop n all) next

-- an event that was carried out has the line of its reply
pub PrintsStep-made : {E : Type 0} → (n : ℕ) (e : Event) (old new : Hosted) (u v : Option (List ℕ)) (reply : Reply) (r : Result (Unit {0}) E)
    → IsMade e old reply new → OnOk r (Appends u v (reply_line n reply)) → OnOk r (PrintsStep n e old new u v)
PrintsStep-made n e old new u v reply (Err error) made line = tt
PrintsStep-made n e old new u v reply (Ok x) made line = (reply, inr made.after, made.setup, line)

-- an event for which there was no memory has that line
pub PrintsStep-none : {E : Type 0} → (n : ℕ) (e : Event) (old new : Hosted) (u v : Option (List ℕ)) (r : Result (Unit {0}) E)
    → new ≡ old → IsTrue (may_want e) → OnOk r (Appends u v (reply_line n reply.NoMemory)) → OnOk r (PrintsStep n e old new u v)
PrintsStep-none n e old new u v (Err error) same wants line = tt
PrintsStep-none n e old new u v (Ok x) same wants line = (reply.NoMemory, inl (wants, refl, ap hosted_world same), ap setup_of same, line)

-- an output has grown by the lines of so many replies, and these answer the events before those that are left
pub record RunsSoFar (replay : ReplayValue) (u v : Option (List ℕ)) (count : ℕ) (now : Hosted) (left : List Event) : Type 0 where
  pub replies : List Reply
  pub printed : Appends u v (reply_lines 1 replies)
  pub counted : count ≡ length replies
  pub answered : AnswersSoFar replay.set_up.geometry (world_at_start replay.set_up) replay.events replies (hosted_world now) left
  pub kept : setup_of now ≡ replay.set_up

-- at the start of a set-up
pub RunsSoFar-none : (replay : ReplayValue) (u : Option (List ℕ)) (now : Hosted) (left : List Event)
    → setup_of now ≡ replay.set_up → IsAtStart (setup_of now) now → left ≡ replay.events → RunsSoFar replay u u 0 now left
unfolding reply_lines
RunsSoFar-none replay u now left kept fresh all =
    let first : hosted_world now ≡ world_at_start replay.set_up = fresh.world ∙ ap world_at_start kept in
    record {
      replies = [];
      printed = Appends-nothing u;
      counted = refl;
      answered = rw (first, all) (AnswersSoFar-none replay.set_up.geometry (world_at_start replay.set_up) replay.events);
      kept = kept;
    }

-- one more event
pub RunsSoFar-then : (replay : ReplayValue) (u v w : Option (List ℕ)) (count : ℕ) (old new : Hosted) (event : Event) (left all : List Event)
    → RunsSoFar replay u v count old all → all ≡ event ∷ left → PrintsStep (count + 1) event old new v w
    → RunsSoFar replay u w (count + 1) new left
RunsSoFar-then replay u v w count old new event left all so_far turn (reply, stepped, same, more) =
    let geometry = replay.set_up.geometry in
    let first = world_at_start replay.set_up in
    let answered = subst (λ (s : SetUp). IsAnswered s.geometry (hosted_world old) event reply (hosted_world new)) so_far.kept stepped in
    let number : 1 + length so_far.replies ≡ count + 1 = omega (arith, so_far.counted) in
    let line = reply_lines-then 1 so_far.replies reply ∙ ap (λ n. reply_lines 1 so_far.replies ++ reply_line n reply) number in
    record {
      replies = so_far.replies ++ reply ∷ [];
      printed = rw line (Appends-then u v w (reply_lines 1 so_far.replies) (reply_line (count + 1) reply) so_far.printed more);
      counted = omega (arith, so_far.counted, length-append so_far.replies (reply ∷ []));
      answered = AnswersSoFar-then geometry first (hosted_world old) (hosted_world new) replay.events so_far.replies event reply left
          (rw turn at so_far.answered) answered;
      kept = same ∙ so_far.kept;
    }

-- after the last event
pub RunsSoFar-all : {E : Type 0} → (replay : ReplayValue) (u v w : Option (List ℕ)) (count : ℕ) (now : Hosted) (left : List Event)
    (r : Result (Unit {0}) E)
    → RunsSoFar replay u v count now left → left ≡ [] → OnOk r (Appends v w (count_line count)) → OnOk r (PrintsReplay replay u w)
unfolding shown
RunsSoFar-all replay u v w count now left (Err e) so_far none more = tt
RunsSoFar-all replay u v w count now left (Ok x) so_far none more =
    let last = subst (λ n. Appends v w (count_line n)) so_far.counted more in
    let geometry = replay.set_up.geometry in
    let first = world_at_start replay.set_up in
    let answered = AnswersSoFar-all geometry first (hosted_world now) replay.events so_far.replies (rw none at so_far.answered) in (
      shown so_far.replies,
      Appends-then u v w (reply_lines 1 so_far.replies) (count_line (length so_far.replies)) so_far.printed last,
      (so_far.replies, hosted_world now, answered, refl),
    )
