-- How a Reap is answered by the lane and its next completion alone.
use Rattle.std.proofs.Common.{◌≡◌, ℕ, ◌<◌, ◌⊎◌, inl, inr, Bool, true, false, ◌==◌, ◌&&◌, eq-eqb, if◌then◌else◌, List, slice_get, Option, Some, None, arith, refl, sym, ap, ◌∙◌}
use Rattle.std.proofs.lemmas.Bool.{cases_eq, ne_eqb}
use Rattle.std.specs.Prelude.{◌↔◌, IsTrue, ◌≢◌}
use Rattle.nv_core.specs.Reaping.{answer_of, answer_to, is_new, names_command, next_completion, waits_in}
use Rattle.nv_core.specs.Tags.{is_flying, state_in}
use Rattle.nv_entry.specs.Completion.{cid_of, phase_of, sqid_of}
use Rattle.nv_entry.specs.Layout.{bits}
use Rattle.nv_entry.specs.Status.{bit}
use Rattle.nv_model.proofs.Endings.{and-true}
use Rattle.nv_model.specs.declared.reply.Reply.{Reply}
use Rattle.nv_model.specs.declared.reply.Reply.TheVariants as reply
use Rattle.nv_tags.specs.declared.state.TagState.TheVariants as state
use Rattle.nv_world_model.specs.Area.{queue_pair}
use Rattle.nv_world_model.specs.Geometry.{Geometry}
use Rattle.nv_world_model.specs.World.{Ended, Flying, Free, Lane, Tag, Taken}
use mathlib.Core.Bool.{beq}

-- ---- the phase tag

pub phase-small : (completion : List ℕ) → phase_of completion < 2
unfolding bits
phase-small completion = omega arith

pub compared : (n : ℕ) (p q b : Bool) → n < 2 → (IsTrue p ↔ (n ≡ 1)) → q ≡ b → beq p q ≡ (n == bit b)
compared n true true true few iff e = sym (eq-eqb n 1 (iff.0 refl))
compared n true false false few iff e = sym (ne_eqb n 0 (λ none. (let one : n ≡ 1 = iff.0 refl in omega (arith, one, none))))
compared n false true true few iff e = sym (ne_eqb n 1 (λ one. (let never = iff.1 one in cc)))
compared n false false false few iff e = by (cases_eq n 1)
  where
    by : (n ≡ 1) ⊎ (n ≢ 1) → beq false false ≡ (n == 0)
    by (inl one) = (let never = iff.1 one in cc)
    by (inr other) = sym (eq-eqb n 0 (omega (arith, few, other)))
compared n p true false few iff e = cc
compared n p false true few iff e = cc

-- what the code compares is whether the completion is new
module _ (geometry : Geometry) (lane : ℕ) (lanes : List Lane) (l : Lane) (memory completion : List ℕ) (there : slice_get lanes lane ≡ Some l)
    (read : completion ≡ next_completion geometry lane l memory) (p q : Bool) (iff : IsTrue p ↔ (phase_of completion ≡ 1)) (wants : q ≡ l.phase) where
  new-told : beq p q ≡ is_new l completion
  new-told = compared (phase_of completion) p q l.phase (phase-small completion) iff wants

  pub waits-told : beq p q ≡ waits_in geometry lane (slice_get lanes lane) memory
  waits-told = new-told ∙ ap (is_new l) read ∙ sym (ap (λ (o : Option Lane). waits_in geometry lane o memory) there)

  answered : answer_to lane l completion ≡ answer_of geometry lane (slice_get lanes lane) memory
  answered = ap (answer_to lane l) read ∙ sym (ap (λ (o : Option Lane). answer_of geometry lane o memory) there)

  abbrev chosen : Bool → Bool → Option Reply
  chosen new names = if new then (if names then Some reply.Done else None) else Some reply.Idle

  pub idle-told : beq p q ≡ false → Some reply.Idle ≡ answer_of geometry lane (slice_get lanes lane) memory
  idle-told differ = sym (ap (λ b. chosen b (names_command lane l completion)) (sym new-told ∙ differ)) ∙ answered

  pub stray-told : beq p q ≡ true → names_command lane l completion ≡ false → None ≡ answer_of geometry lane (slice_get lanes lane) memory
  stray-told same names =
      sym (ap (λ b. chosen b (names_command lane l completion)) (sym new-told ∙ same) ∙ ap (chosen true) names) ∙ answered

  pub done-told : beq p q ≡ true → names_command lane l completion ≡ true → Some reply.Done ≡ answer_of geometry lane (slice_get lanes lane) memory
  done-told same names =
      sym (ap (λ b. chosen b (names_command lane l completion)) (sym new-told ∙ same) ∙ ap (chosen true) names) ∙ answered

-- ---- the command that is named

pub named-flies : (lane : ℕ) (l : Lane) (completion : List ℕ) (cid : ℕ) → cid ≡ cid_of completion → names_command lane l completion ≡ true
    → is_flying (slice_get l.tags cid) ≡ true
named-flies lane l completion cid named e =
    ap (λ n. is_flying (slice_get l.tags n)) named ∙ (and-true (sqid_of completion == queue_pair lane) (is_flying (slice_get l.tags (cid_of completion))) e).1

aloft-flies : (t : Option Tag) → state_in t ≡ Some state.Flying → is_flying t ≡ true
aloft-flies None e = cc
aloft-flies (Some Free) e = cc
aloft-flies (Some (Taken command reads)) e = cc
aloft-flies (Some (Flying command share at)) e = refl
aloft-flies (Some (Ended command st share)) e = cc

-- one that is in flight is named
pub not-stray : (lane : ℕ) (l : Lane) (completion : List ℕ) → sqid_of completion ≡ queue_pair lane
    → state_in (slice_get l.tags (cid_of completion)) ≡ Some state.Flying → names_command lane l completion ≡ false → ⊥
not-stray lane l completion queue flies e =
    let names : names_command lane l completion ≡ true =
    ap (λ b. b && is_flying (slice_get l.tags (cid_of completion))) (eq-eqb (sqid_of completion) (queue_pair lane) queue)
    ∙ aloft-flies (slice_get l.tags (cid_of completion)) flies in
    let bad : true ≡ false = sym names ∙ e in cc
