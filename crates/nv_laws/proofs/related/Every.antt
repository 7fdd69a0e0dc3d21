-- Each event is followed where those are of which no law of this crate says it.
use Rattle.std.proofs.Common.{◌≡◌, ℕ, ◌⊎◌, inl, inr, Bool, true, false, ◌&&◌, ◌==◌, [], ◌∷◌, slice_get, Option, Some, None, refl, sym, ap, ◌∙◌, eq-eqb, subst}
use Rattle.std.proofs.lemmas.Bool.{cases_eq}
use Rattle.nv_entry.specs.Status.{StatusField}
use Rattle.nv_model.specs.Private.{Private}
use Rattle.nv_model.specs.declared.reply.Reply.{Reply}
use Rattle.nv_model.specs.declared.reply.Reply.TheVariants as reply
use Rattle.nv_world_model.specs.declared.event.Event.{Event}
use Rattle.nv_world_model.specs.declared.event.Event.TheVariants as event
use Rattle.nv_world_model.specs.Contained.{owner}
use Rattle.nv_world_model.specs.Geometry.{Geometry, Guest}
use Rattle.nv_world_model.specs.Laws.{IsAmong}
use Rattle.nv_world_model.specs.PrivateSteps.{act_of}
use Rattle.nv_world_model.specs.Step.{is_done, is_telling, step}
use Rattle.nv_world_model.specs.World.{World, is_that}
use Rattle.nv_world_model.proofs.Replies.{step-answers}
use Rattle.nv_laws_sound.proofs.Lists.{some-same}
use Rattle.nv_laws.specs.Following.{AreRestFollowed, EachEventIsFollowed, GoesAlong, IsDisciplinedAt, IsReached}
use Rattle.nv_laws.specs.Related.{Related}
use Rattle.nv_laws.proofs.related.Acts.{act-goes}
use Rattle.nv_laws.proofs.related.Goings.{dull-goes}
use Rattle.nv_laws.proofs.related.Others.{others-go}
use Rattle.nv_laws.proofs.related.Reaps.{reaps-go}
use Rattle.nv_laws.proofs.related.Tags.{give_ups-go, lists-go}
use Rattle.nv_laws.proofs.related.Takes.{takes-go}

-- whose an event is
owner-cases : (number : ℕ) (o : Option ℕ) → (o ≡ Some number) ⊎ (o ≡ Some number → ⊥)
owner-cases number None = inr (λ e. cc)
owner-cases number (Some other) =
    elim (cases_eq other number) [
      | inl same ↦ inl (ap (λ n. Some n) same)
      | inr apart ↦ inr (λ e. apart (some-same other number e))
    ]

-- a reply that is not Done, where none is of bytes, tells of no change
not-done : (r : Reply) → IsAmong (reply.Done ∷ reply.Idle ∷ reply.Ignored ∷ []) r → is_done r ≡ false → is_telling r ≡ false
not-done r (inl same) dull = (let bad : true ≡ false = sym (ap is_done same) ∙ dull in cc)
not-done r (inr (inl same)) dull = ap is_telling same
not-done r (inr (inr (inl same))) dull = ap is_telling same
not-done r (inr (inr (inr never))) dull = absurd never

module _ (host_bytes : ℕ) (geometry : Geometry) (number : ℕ) (guest : Guest) (given : slice_get geometry.guests number ≡ Some guest)
    (w : World) (reached : IsReached host_bytes geometry w) (p : Private) (related : Related geometry number guest w p) where
  -- a step that tells of no change
  pub dull-step : (e : Event) → act_of number e ≡ None → is_telling (step geometry e w).reply ≡ false → GoesAlong geometry number guest e w p (step geometry e w)
  dull-step e no_act dull =
      subst (λ x. GoesAlong geometry number guest e w p (record { world = x; reply = (step geometry e w).reply })) (sym ((step-answers geometry e w).dull dull))
      (dull-goes geometry number guest e w p no_act related (step geometry e w).reply dull)

  -- no command of the guest's is failed
  fails-go : (lane slot : ℕ) (st : StatusField) → IsDisciplinedAt geometry number guest (event.DevFail lane slot st) w
      → owner (event.DevFail lane slot st) w ≡ Some number
      → GoesAlong geometry number guest (event.DevFail lane slot st) w p (step geometry (event.DevFail lane slot st) w)
  fails-go lane slot st disciplined own =
      let e = event.DevFail lane slot st in
      let here : (number == number) ≡ true = eq-eqb number number refl in
      dull-step e refl
      (not-done (step geometry e w).reply (step-answers geometry e w).may
      (never-and (is_done (step geometry e w).reply)
      (sym (ap (λ o. is_done (step geometry e w).reply && is_that number o) own ∙ ap (λ b. is_done (step geometry e w).reply && b) here)
      ∙ disciplined.not_failed)))
    where
      never-and : (b : Bool) → (b && true) ≡ false → b ≡ false
      never-and true e = cc
      never-and false e = refl

  module _ (rest : AreRestFollowed geometry host_bytes number guest) where
    own-goes : (e : Event) → IsDisciplinedAt geometry number guest e w → owner e w ≡ Some number → GoesAlong geometry number guest e w p (step geometry e w)
    own-goes (event.Guest g a) disciplined own =
        by_number (some-same g number own) disciplined
      where
        by_number : g ≡ number → IsDisciplinedAt geometry number guest (event.Guest g a) w → GoesAlong geometry number guest (event.Guest g a) w p (step geometry (event.Guest g a) w)
        by_number same =
            subst (λ n. IsDisciplinedAt geometry number guest (event.Guest n a) w → GoesAlong geometry number guest (event.Guest n a) w p (step geometry (event.Guest n a) w)) (sym same)
            (λ d. act-goes host_bytes geometry number guest given w reached p related a d)
    own-goes (event.Admin g) disciplined own =
        by_number (some-same g number own) disciplined
      where
        by_number : g ≡ number → IsDisciplinedAt geometry number guest (event.Admin g) w → GoesAlong geometry number guest (event.Admin g) w p (step geometry (event.Admin g) w)
        by_number same =
            subst (λ n. IsDisciplinedAt geometry number guest (event.Admin n) w → GoesAlong geometry number guest (event.Admin n) w p (step geometry (event.Admin n) w)) (sym same)
            (λ d. rest.admins w p reached d related refl)
    own-goes (event.Take g queue lane) disciplined own =
        by_number (some-same g number own) disciplined
      where
        by_number : g ≡ number → IsDisciplinedAt geometry number guest (event.Take g queue lane) w
            → GoesAlong geometry number guest (event.Take g queue lane) w p (step geometry (event.Take g queue lane) w)
        by_number same =
            subst (λ n. IsDisciplinedAt geometry number guest (event.Take n queue lane) w
            → GoesAlong geometry number guest (event.Take n queue lane) w p (step geometry (event.Take n queue lane) w)) (sym same)
            (λ d. takes-go host_bytes geometry number guest given w reached p related queue lane d)
    own-goes (event.List lane tag addr len) disciplined own = lists-go host_bytes geometry number guest given w reached p related lane tag addr len own
    own-goes (event.Submit lane tag) disciplined own = rest.submits lane tag w p reached disciplined related own
    own-goes (event.GiveUp lane tag) disciplined own = give_ups-go host_bytes geometry number guest given w reached p related lane tag own
    own-goes (event.DevTake lane) disciplined own = rest.device_takes lane w p reached disciplined related own
    own-goes (event.DevMove lane slot unit) disciplined own = rest.device_moves lane slot unit w p reached disciplined related own
    own-goes (event.DevPost lane slot) disciplined own = rest.device_posts lane slot w p reached disciplined related own
    own-goes (event.DevFail lane slot st) disciplined own = fails-go lane slot st disciplined own
    own-goes (event.Keep block) disciplined own = cc
    own-goes (event.Reap lane) disciplined own = reaps-go host_bytes geometry number guest given w reached p related lane own
    own-goes (event.Post lane tag) disciplined own = rest.posts lane tag w p reached disciplined related own

    pub event-goes : (e : Event) → IsDisciplinedAt geometry number guest e w → GoesAlong geometry number guest e w p (step geometry e w)
    event-goes e disciplined =
        elim (owner-cases number (owner e w)) [
          | inl own ↦ own-goes e disciplined own
          | inr apart ↦ others-go host_bytes geometry number guest given w reached p related e apart
        ]

pub each-followed : (geometry : Geometry) (host_bytes number : ℕ) (guest : Guest) → slice_get geometry.guests number ≡ Some guest
    → AreRestFollowed geometry host_bytes number guest → EachEventIsFollowed geometry host_bytes number guest
each-followed geometry host_bytes number guest given rest e w p reached disciplined related =
    event-goes host_bytes geometry number guest given w reached p related rest e disciplined
