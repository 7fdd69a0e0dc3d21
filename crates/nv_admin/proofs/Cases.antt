-- The event of an admin queue without a memory, case by case.
use Rattle.std.proofs.Common.{◌≡◌, ℕ, Bool, true, false, ◌==◌, eq-eqb, eqb-true, List, slice_index, Option, Some, None, is_some, Result, Ok, Err, refl, sym, ap, ◌∙◌}
use Rattle.nv_entry.specs.Status.{StatusField}
use Rattle.nv_entry.specs.StatusCode.{done_with}
use Rattle.nv_entry.specs.Submission.{cid_of}
use Rattle.nv_entry.specs.declared.status_code.StatusCode.{StatusCode}
use Rattle.nv_entry.specs.declared.status_code.StatusCode.TheVariants.{Success}
use Rattle.nv_model.specs.Admin.{AdminEffect, admin_command, is_queue_full}
use Rattle.nv_model.specs.Controller.{Controller, Deletion, completion_queue, is_ready, took}
use Rattle.nv_vctl.specs.Vctl.{deletion_finished, finished_from}
use Rattle.nv_admin.specs.Administering.{administered, answer_of, answered_with, deletion_done, front_done, left_with, ready_done}
use Rattle.nv_admin.specs.Effect.{effect}
use Rattle.nv_admin.specs.Identify.{Stored, command_stored}
use Rattle.nv_admin.specs.declared.outcome.Outcome.{Outcome}
use Rattle.nv_admin.specs.declared.outcome.Outcome.TheVariants as outcome
use Rattle.nv_admin.specs.declared.reply.Admin.TheVariants as reply

abbrev pub no_memory : ℕ → ℕ
no_memory at = 0

-- ---- a deletion that waits

some-not : (n : ℕ) → (n ≡ 0 → ⊥) → (n == 0) ≡ false
some-not n some = (elim (n == 0) as (λ b. (n == 0) ≡ b → b ≡ false) [ true ↦ λ is. absurd (some (eqb-true n 0 is)) | false ↦ λ is. refl ]) refl

pub deletion-waits : (d : Deletion) (c : Controller) → (slice_index c.taken d.queue ≡ 0 → ⊥) → deletion_done d c ≡ left_with reply.Idle c
deletion-waits d c some = let is : (slice_index c.taken d.queue == 0) ≡ false = some-not (slice_index c.taken d.queue) some in rw is refl

pub deletion-held : (d : Deletion) (c : Controller) → slice_index c.taken d.queue ≡ 0 → is_queue_full (completion_queue c 0) ≡ true
    → deletion_done d c ≡ left_with reply.Held c
deletion-held d c none full =
    let is : (slice_index c.taken d.queue == 0) ≡ true = eq-eqb (slice_index c.taken d.queue) 0 none in rw (is, full) refl

pub deletion-goes : (d : Deletion) (c : Controller) → slice_index c.taken d.queue ≡ 0 → is_queue_full (completion_queue c 0) ≡ false → c.deletion ≡ Some d
    → deletion_done d c ≡ answered_with (Some (0, done_with Success)) d.cid (deletion_finished c) None c
deletion-goes d c none room waits =
    let is : (slice_index c.taken d.queue == 0) ≡ true = eq-eqb (slice_index c.taken d.queue) 0 none in
    rw (is, room) (ap (λ (o : Option Deletion). answered_with (Some (0, done_with Success)) d.cid (finished_from o c) None c) (sym waits))

-- ---- the front command

module _ (mapped : ℕ → Bool) (blocks : ℕ) (entry : List ℕ) (c : Controller) where
  pub front-idle : (f : Option ℕ) → is_some f ≡ false → front_done f mapped blocks entry c ≡ left_with reply.Idle c
  front-idle None none = refl
  front-idle (Some addr) none = cc

  pub front-held : (f : Option ℕ) → is_some f ≡ true → is_queue_full (completion_queue c 0) ≡ true
      → front_done f mapped blocks entry c ≡ left_with reply.Held c
  front-held None some full = cc
  front-held (Some addr) some full = rw full refl

  pub front-goes : (f : Option ℕ) → is_some f ≡ true → is_queue_full (completion_queue c 0) ≡ false
      → front_done f mapped blocks entry c
      ≡ (let done = admin_command mapped blocks entry (took c 0) no_memory in
      answered_with done.answer (cid_of entry) done.controller (command_stored mapped blocks entry) c)
  front-goes None some room = cc
  front-goes (Some addr) some room = rw room refl

  -- ---- the whole event

  pub event-idle : is_ready c ≡ false → administered mapped blocks entry c ≡ left_with reply.Idle c
  unfolding administered
  event-idle down = rw down refl

  pub event-ready : (waiting : Option Deletion) → is_ready c ≡ true → c.deletion ≡ waiting
      → administered mapped blocks entry c ≡ ready_done waiting mapped blocks entry c
  unfolding administered
  event-ready waiting up is = rw up (ap (λ (o : Option Deletion). ready_done o mapped blocks entry c) is)

-- ---- a command's outcome

effect-answer : (o : Result Outcome StatusCode) (c : Controller) (memory : ℕ → ℕ) → (effect o c memory).answer ≡ answer_of o
effect-answer (Ok (outcome.Done dw0)) c memory = refl
effect-answer (Ok outcome.Pending) c memory = refl
effect-answer (Err why) c memory = refl

effect-controller : (o : Result Outcome StatusCode) (c : Controller) (memory : ℕ → ℕ) → (effect o c memory).controller ≡ c
effect-controller (Ok (outcome.Done dw0)) c memory = refl
effect-controller (Ok outcome.Pending) c memory = refl
effect-controller (Err why) c memory = refl

-- what it is answered
pub outcome-answered : (done : AdminEffect) (o : Result Outcome StatusCode) (new before : Controller) (memory : ℕ → ℕ) (cid : ℕ) (s t : Option Stored)
    → done ≡ effect o new memory → s ≡ t
    → answered_with done.answer cid done.controller s before ≡ answered_with (answer_of o) cid new t before
outcome-answered done o new before memory cid s t is same =
    ap (λ (e : AdminEffect). answered_with e.answer cid e.controller s before) is
    ∙ ap (λ (a : Option (ℕ × StatusField)). answered_with a cid (effect o new memory).controller s before) (effect-answer o new memory)
    ∙ ap (λ (c : Controller). answered_with (answer_of o) cid c s before) (effect-controller o new memory)
    ∙ ap (λ (x : Option Stored). answered_with (answer_of o) cid new x before) same
