-- A log, and one more event behind it.
use Rattle.std.proofs.Common.{◌≡◌, List, [], ◌∷◌, ◌++◌, refl, sym, subst, ap, ◌∙◌}
use Rattle.std.proofs.lemmas.List.Elements.{All-append, All-cons, All-nil}
use Rattle.nv_core.specs.State.{world_of}
use Rattle.nv_laws.specs.Alike.{HasFittingStatus}
use Rattle.nv_mediator.specs.Hosted.{Hosted, IsAtStart, IsLog, IsMade, IsSame, setup_of}
use Rattle.nv_model.specs.declared.reply.Reply.{Reply}
use Rattle.nv_world_model.specs.declared.logged.Logged.{Logged}
use Rattle.nv_world_model.specs.Geometry.{Geometry}
use Rattle.nv_world_model.specs.Log.{IsReplay, events_of, replies_of}
use Rattle.nv_world_model.specs.SetUp.{SetUp, world_at_start}
use Rattle.nv_world_model.specs.Step.{After, replay, replies, step}
use Rattle.nv_world_model.specs.World.{World}

module _ (geometry : Geometry) (l : Logged) where
  end-more : (log : List Logged) (w : World)
      → replay geometry (events_of (log ++ l ∷ [])) w ≡ (step geometry l.event (replay geometry (events_of log) w)).world
  unfolding replay
  end-more [] w = refl
  end-more (x ∷ log) w = end-more log (step geometry x.event w).world

  told-more : (log : List Logged) (w : World)
      → replies geometry (events_of (log ++ l ∷ [])) w
      ≡ replies geometry (events_of log) w ++ (step geometry l.event (replay geometry (events_of log) w)).reply ∷ []
  unfolding replay replies
  told-more [] w = refl
  told-more (x ∷ log) w =
      ap (λ (rs : List Reply). (step geometry x.event w).reply ∷ rs) (told-more log (step geometry x.event w).world)

  names-more : (log : List Logged) → replies_of (log ++ l ∷ []) ≡ replies_of log ++ l.reply ∷ []
  names-more [] = refl
  names-more (x ∷ log) = ap (λ (rs : List Reply). x.reply ∷ rs) (names-more log)

  -- one more event
  pub replay-more : (log : List Logged) (w z : World) (after : World) → IsReplay geometry w log z
      → (let a : After = record { world = after; reply = l.reply } in a) ≡ step geometry l.event z
      → IsReplay geometry w (log ++ l ∷ []) after
  replay-more log w z after so is =
      let behind : step geometry l.event (replay geometry (events_of log) w) ≡ record { world = after; reply = l.reply } =
      ap (step geometry l.event) so.end ∙ sym is in
      record {
        end = end-more log w ∙ ap (λ (a : After). a.world) behind;
        told =
            told-more log w ∙ ap (λ (rs : List Reply). rs ++ (step geometry l.event (replay geometry (events_of log) w)).reply ∷ []) so.told
            ∙ ap (λ (a : After). replies_of log ++ a.reply ∷ []) behind ∙ sym (names-more log);
      }

-- ---- what leads to a mediator

-- at its start nothing has happened
pub log-none : (s : SetUp) (h : Hosted) → IsAtStart s h → IsLog [] h
unfolding replay replies
log-none s h is = record {
  replayed = record { end = ap world_at_start is.setup ∙ sym is.world; told = refl };
  fitting = All-nil (λ l. HasFittingStatus l.event);
}

module _ (old new : Hosted) (log : List Logged) (so : IsLog log old) where
  -- an event was carried out, and stands behind it
  pub log-more : (l : Logged) → IsMade l.event old l.reply new → IsLog (log ++ l ∷ []) new
  log-more l is = record {
    replayed =
        subst (λ (s : SetUp). IsReplay s.geometry (world_at_start s) (log ++ l ∷ []) (world_of new.state)) (sym is.setup)
        (replay-more old.geometry l log (world_at_start (setup_of old)) (world_of old.state) (world_of new.state) so.replayed is.after);
    fitting =
        All-append (λ l. HasFittingStatus l.event) log (l ∷ []) so.fitting
        (All-cons (λ l. HasFittingStatus l.event) l [] is.fitting (All-nil (λ l. HasFittingStatus l.event)));
  }

  -- the world is as it was
  pub log-same : IsSame old new → IsLog log new
  log-same is = record {
    replayed =
        subst (λ (s : SetUp). IsReplay s.geometry (world_at_start s) log (world_of new.state)) (sym is.setup)
        (subst (IsReplay old.geometry (world_at_start (setup_of old)) log) (sym is.world) so.replayed);
    fitting = so.fitting;
  }
