-- The private controller of a guest goes along where a command of the guest's is answered at once: it has judged it, and its verdict is that status.
use Rattle.std.proofs.Common.{◌≡◌, ℕ, zero, suc, inl, inr, Bool, true, false, cond, ◌||◌, ◌==◌, List, [], ◌∷◌, map, slice_get, Option, Some, None}
use Rattle.std.proofs.Common.{arith, refl, sym, ap, ◌∙◌, eq-eqb, eqb-true, subst}
use Rattle.std.proofs.lemmas.Bool.{cases_eq, ne_eqb}
use Rattle.nv_entry.specs.Status.{StatusField}
use Rattle.nv_model.specs.Judge.{Verdict}
use Rattle.nv_model.specs.Memory.{image}
use Rattle.nv_model.specs.Private.{Ended as EndedWith, JudgeStep, Private, Progress, Taken as Member, judged_at, progress_of, put, step as private_step, unseen, verdict_in, with_taken}
use Rattle.nv_model.specs.Transcript.{ReadDone}
use Rattle.nv_model.specs.declared.reply.Reply.TheVariants as reply
use Rattle.nv_world_model.specs.declared.event.Event.TheVariants as event
use Rattle.nv_world_model.specs.Geometry.{Geometry, Guest, regions_of, shape_of}
use Rattle.nv_world_model.specs.Disciplined.{in_order}
use Rattle.nv_world_model.specs.Seat.{name_of}
use Rattle.nv_world_model.specs.Step.{ended_at_once, replied}
use Rattle.nv_world_model.specs.View.{is_tag_of, own_held}
use Rattle.nv_world_model.specs.World.{Command, Lane, Tag, Taken, World, group, group_in, leader_of, tag_in, tag_of}
use Rattle.nv_world_model.specs.World.{is_that}
use Rattle.nv_laws_sound.proofs.Numbers.{numbers-are, numbers_where}
use Rattle.nv_laws.specs.Following.{GoesAlong, IsReached}
use Rattle.nv_laws.specs.Related.{Related}
use Rattle.nv_laws.proofs.related.Agreed.{hides_at, verdict-same}
use Rattle.nv_laws.proofs.related.Changing.{touched}
use Rattle.nv_laws.proofs.related.Goings.{one-goes}
use Rattle.nv_laws.proofs.related.Rests.{led}
use Rattle.nv_laws.proofs.related.Tags.{ended-related, group-taken, hides-nothing, taken-is}
use Rattle.nv_laws.proofs.related.Views.{device_of}

-- ---- which tags go by one

eq-suc : (n b : ℕ) → (suc n == suc b) ≡ (n == b)
eq-suc n b =
    elim (cases_eq n b) [
      | inl same ↦ eq-eqb (suc n) (suc b) (ap suc same) ∙ sym (eq-eqb n b same)
      | inr apart ↦ ne_eqb (suc n) (suc b) (λ same. apart (omega (arith, same))) ∙ sym (ne_eqb n b apart)
    ]

touched-suc : (ns : List ℕ) (b : ℕ) → touched (map suc ns) (suc b) ≡ touched ns b
touched-suc [] b = refl
touched-suc (n ∷ ns) b = ap (λ c. c || touched (map suc ns) (suc b)) (eq-suc n b) ∙ ap (λ c. (n == b) || c) (touched-suc ns b)

or-later : (c d : Bool) → d ≡ true → (c || d) ≡ true
or-later true d e = refl
or-later false d e = e

numbers-touch : {X : Type 0} (test : X → Bool) (xs : List X) (b : ℕ) (x : X) → slice_get xs b ≡ Some x → test x ≡ true → touched (numbers_where test xs) b ≡ true
numbers-touch test [] b x at passes = cc
numbers-touch test (y ∷ ys) zero x at passes =
    let same : y ≡ x = cc in
    ap (λ c. touched (cond c (0 ∷ map suc (numbers_where test ys)) (map suc (numbers_where test ys))) 0) (ap test same ∙ passes)
numbers-touch test (y ∷ ys) (suc b) x at passes =
    let rest : touched (map suc (numbers_where test ys)) (suc b) ≡ true = touched-suc (numbers_where test ys) b ∙ numbers-touch test ys b x at passes in
    elim (test y) as (λ c. touched (cond c (0 ∷ map suc (numbers_where test ys)) (map suc (numbers_where test ys))) (suc b) ≡ true) [
      | true ↦ or-later (0 == suc b) (touched (map suc (numbers_where test ys)) (suc b)) rest
      | false ↦ rest
    ]

-- a tag that goes by another is one of its command's
pub led-touched : (w : World) (lane leader b : ℕ) → led leader (tag_of w lane b) ≡ true → touched (group w lane leader) b ≡ true
unfolding group
led-touched w lane leader b goes = by (slice_get w.lanes lane) goes
  where
    by_tag : (tags : List Tag) (o : Option Tag) → slice_get tags b ≡ o → led leader o ≡ true → touched (numbers_where (λ t. is_that leader (leader_of t)) tags) b ≡ true
    by_tag tags None at led_so = cc
    by_tag tags (Some t) at led_so = numbers-touch (λ t. is_that leader (leader_of t)) tags b t at led_so

    by : (o : Option Lane) → led leader (tag_in o b) ≡ true → touched (group_in o leader) b ≡ true
    by None led_so = cc
    by (Some l) led_so =
        ap (λ ns. touched ns b) (numbers-are (λ t. is_that leader (leader_of t)) l.tags) ∙ by_tag l.tags (slice_get l.tags b) refl led_so

module _ (host_bytes : ℕ) (geometry : Geometry) (number : ℕ) (guest : Guest) (given : slice_get geometry.guests number ≡ Some guest)
    (w : World) (reached : IsReached host_bytes geometry w) (p : Private) (related : Related geometry number guest w p) (lane tag : ℕ)
    (ordered : in_order None number guest w ≡ true) (command : Command) (reads : List ReadDone) (there : tag_of w lane tag ≡ Some (Taken command reads))
    (leads : (command.leader == tag) ≡ true) (mine : (command.guest == number) ≡ true) where
  abbrev name : ℕ
  name = name_of lane tag

  abbrev pub mine_memory : ℕ → ℕ
  mine_memory = image (regions_of guest) w.host

  abbrev member : Progress → Member
  member progress = record { queue = command.queue; entry = command.entry; progress = progress }

  abbrev pub judged : Progress → Private
  judged progress = record p { bag = put p.bag name (Some (member progress)) }

  -- none of its tags hides a byte
  pub bare : (b at : ℕ) → led command.leader (tag_of w lane b) ≡ true
      → hides_at host_bytes geometry number guest w reached p related ordered lane tag (Taken command reads) command command.entry there refl
      (ap (λ c. cond c (command.entry ∷ []) []) mine) lane b at ≡ false
  bare b at goes =
      let first : led tag (tag_of w lane b) ≡ true = subst (λ n. led n (tag_of w lane b) ≡ true) (eqb-true command.leader tag leads) goes in
      let was = group-taken host_bytes geometry number guest given w reached p related lane tag command reads there leads mine b (led-touched w lane tag b first) in
      hides-nothing number (tag_of w lane b) (Taken command was.has.reads) (own_held number (tag_of w lane b) (device_of w lane b)) at
      (was.is ∙ ap (λ x. Some x) was.has.is) refl

  same-verdict : verdict_in (shape_of guest) p.memory command.entry ≡ verdict_in (shape_of guest) mine_memory command.entry
  same-verdict =
      verdict-same host_bytes geometry number guest w reached p related ordered lane tag (Taken command reads) command command.entry there refl
      (ap (λ c. cond c (command.entry ∷ []) []) mine) bare

  -- the private controller judges it
  judged-made : (v : Verdict) → verdict_in (shape_of guest) mine_memory command.entry ≡ v → private_step (shape_of guest) (JudgeStep name) p ≡ unseen (judged (progress_of v))
  unfolding private_step
  judged-made v is =
      ap (λ o. with_taken o (λ t. judged_at t.progress (shape_of guest) name t p)) (taken-is host_bytes geometry number guest given w reached p related lane tag command reads there leads mine)
      ∙ ap (λ x. unseen (judged (progress_of x))) (same-verdict ∙ is)

  pub judge-goes : (z : World) (v : Verdict) → verdict_in (shape_of guest) mine_memory command.entry ≡ v → Related geometry number guest z (judged (progress_of v))
      → GoesAlong geometry number guest (event.Submit lane tag) w p (replied reply.Done z)
  judge-goes z v is behind =
      one-goes geometry number guest (event.Submit lane tag) w z p (judged (progress_of v)) (JudgeStep name) refl
      (ap (λ o. cond (is_tag_of number o) (JudgeStep name ∷ []) []) there ∙ ap (λ b. cond b (JudgeStep name ∷ []) []) mine) (judged-made v is) behind

  -- ---- it ends at once

  pub answered-related : (st : StatusField) → Related geometry number guest (ended_at_once lane (group w lane tag) command st w) (judged (EndedWith st))
  answered-related st = ended-related host_bytes geometry number guest given w reached p related lane tag command reads there leads mine st
