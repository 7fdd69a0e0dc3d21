-- What is promised of the mediator that a handle holds, whatever calls led to it (profile).
use Rattle.std.specs.Prelude.{◌≡◌, List, None}
use Rattle.nv_c.specs.declared.held.Held.{Held}
use Rattle.nv_c.specs.declared.held.Held.TheVariants.{Serving, Simulated}
use Rattle.nv_host.specs.Served.{IsAccepted, IsPromised as IsServedPromised}
use Rattle.nv_mediator.specs.Hosted.{HasLog, Hosted, IsLog, hosted_world, setup_of}
use Rattle.nv_world_model.specs.declared.logged.Logged.{Logged}
use Rattle.nv_world_model.specs.Headline.{Headline}
use Rattle.nv_world_model.specs.SetUp.{refusal_of, world_at_start}

-- Its set-up was accepted: no two guests share a byte or a block, and none has a byte of the mediator's area. Some log of events leads from the
-- set-up's start to its world. And every log that leads there keeps the whole promise: each event is contained; and each guest that is disciplined
-- along the log, and none of whose physical commands failed in it, has what a run of its own commands on a private controller gives
pub record IsPromised (h : Hosted) : Type 0 where
  pub accepted : refusal_of (setup_of h) ≡ None
  pub led : HasLog h
  pub kept : (log : List Logged) → IsLog log h → Headline h.geometry (world_at_start (setup_of h)) log (hosted_world h)

-- What is promised of a mediator of either kind. Of one that serves a host: its set-up was accepted, and every log that leads to it, in whatever
-- memory, keeps the whole promise
abbrev pub IsKept : Held → Type 0
IsKept (Simulated h) = IsPromised h
IsKept (Serving h) = IsAccepted h.setup × IsServedPromised h
