-- A step of the mediator, with the log: what is kept of the world, and what its callers see.
use Rattle.std.proofs.Common.{◌≡◌, List, [], ◌∷◌, ◌++◌, sym, subst, ap, ◌∙◌}
use Rattle.nv_core.specs.State.{world_of}
use Rattle.nv_mediator.proofs.Logs.{log-more, log-same}
use Rattle.nv_mediator.specs.Hosted.{Hosted, IsMade, IsSame}
use Rattle.nv_model.specs.declared.reply.Reply.{Reply}
use Rattle.nv_world.specs.Mediated.{IsLogged, IsRunning, Kept, Mediated, hosted, mediated, setup_of}
use Rattle.nv_world_model.specs.declared.event.Event.{Event}
use Rattle.nv_world_model.specs.declared.logged.Logged.{Logged}
use Rattle.nv_world_model.specs.SetUp.{SetUp}
use Rattle.nv_world_model.specs.World.{World}

-- a mediator and a log
abbrev pub keeping : Hosted → List Logged → Kept
keeping h log = record { geometry = h.geometry; state = h.state; log = log }

-- nothing has changed
module _ (k : Kept) (new : Hosted) (same : IsSame (hosted k) new) where
  pub unchanged-running : IsRunning k → IsRunning (keeping new k.log)
  unchanged-running running = log-same (hosted k) new k.log running same

  pub unchanged-seen : mediated (keeping new k.log) ≡ mediated k
  unchanged-seen =
      ap (λ (s : SetUp). let m : Mediated = record { setup = s; log = k.log; world = world_of new.state } in m) same.setup
      ∙ ap (λ (w : World). let m : Mediated = record { setup = setup_of k; log = k.log; world = w } in m) same.world

-- an event was carried out, and is logged
module _ (k : Kept) (new : Hosted) (e : Event) (r : Reply) (is : IsMade e (hosted k) r new)
    (log : List Logged) (joined : log ≡ k.log ++ record { event = e; reply = r } ∷ []) where
  pub made-running : IsRunning k → IsRunning (keeping new log)
  made-running running =
      subst (λ (ls : List Logged). IsRunning (keeping new ls)) (sym joined) (log-more (hosted k) new k.log running (record { event = e; reply = r }) is)

  pub made-logged : IsLogged e (mediated k) r (mediated (keeping new log))
  made-logged = record { after = is.after; log = joined; setup = is.setup }
