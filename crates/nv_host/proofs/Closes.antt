-- A close, as a run of events after each log.
use Rattle.std.proofs.Common.{◌≡◌, ℕ, List, [], sym, subst, ◌∙◌, append-nil}
use Rattle.std.proofs.lemmas.List.Elements.{All-nil}
use Rattle.nv_core.specs.Front.{IsLive}
use Rattle.nv_laws_sound.specs.Side.{Side}
use Rattle.nv_host.proofs.Accepted.{leads-live}
use Rattle.nv_host.proofs.Runs.{ended-by, lead-on}
use Rattle.nv_host.specs.Closing.{IsEnding, IsEndedBy}
use Rattle.nv_host.specs.Ending.{AreIdle, IsIdle, IsIdleRun, IsRun, Leads}
use Rattle.nv_host.specs.Served.{IsServed, LeadsTo, Served}
use Rattle.nv_world_model.specs.Geometry.{Geometry}
use Rattle.nv_world_model.specs.SetUp.{SetUp}
use Rattle.nv_world_model.specs.Step.{replay}
use Rattle.nv_world_model.specs.World.{World}
use Rattle.nv_world_model.specs.declared.logged.Logged.{Logged}

-- where there is no such lane nothing is added
pub ended-same : (lane : ℕ) (h : Served) (memory : List ℕ) (first : World) (log : List Logged) (z : World) → LeadsTo h first memory log z
    → IsEndedBy lane first log h memory
ended-same lane h memory first log z so =
    record {
      added = [];
      ending = All-nil (λ l. IsEnding lane l.event);
      world = z;
      leads = subst (λ (ls : List Logged). LeadsTo h first memory ls z) (sym (append-nil log)) so;
    }

-- the completions that are there are read, what waits for its plan is given up, and what the drive still has fails
module _ (h old : Served) (view : h ≡ old) (is : IsServed h) (lane : ℕ) (read given ended new : Served) (before mid after : List ℕ)
    (read_setup : read.setup ≡ old.setup) (given_setup : given.setup ≡ read.setup) (ended_setup : ended.setup ≡ given.setup)
    (new_setup : new.setup ≡ ended.setup) (reads : IsRun old.setup.geometry lane old.side before read.side before)
    (none : AreIdle old.setup.geometry lane read.side before)
    (gives : (memory : List ℕ) → IsIdleRun read.setup.geometry lane read.side memory given.side memory)
    (fails : IsIdleRun given.setup.geometry lane given.side before ended.side mid)
    (same : IsIdle ended.setup.geometry lane ended.side mid → after ≡ mid) (side : new.side ≡ ended.side) where
  pub close-ends : (start : World) (log : List Logged) (z : World) → LeadsTo old start before log z → IsEndedBy lane start log new after
  close-ends start log z so =
      let g : Geometry = old.setup.geometry in
      let live =
      subst (λ (x : Served). LeadsTo x start before log z → IsLive x.setup.geometry z) view (leads-live h.setup is.accepted is.sound start h.side before log z) so in
      let first = reads z so.beside live in
      let w1 : World = replay g first.events z in
      let idle = none w1 first.beside first.live in
      let second = subst (λ (s : SetUp). IsIdleRun s.geometry lane read.side before given.side before) read_setup (gives before) w1 first.beside first.live idle in
      let w2 : World = replay g second.0.events w1 in
      let third =
      subst (λ (s : SetUp). IsIdleRun s.geometry lane given.side before ended.side mid) (given_setup ∙ read_setup) fails w2 second.0.beside second.0.live second.1 in
      let setup = ended_setup ∙ given_setup ∙ read_setup in
      let quiet : IsIdle ended.setup.geometry lane ended.side mid = subst (λ (s : SetUp). IsIdle s.geometry lane ended.side mid) (sym setup) third.1 in
      ended-by lane old new before after (new_setup ∙ setup) start log z so
      (subst (λ (x : Side). Leads g lane z x after) (sym side)
      (subst (λ (m : List ℕ). Leads g lane z ended.side m) (sym (same quiet))
      (lead-on g lane z read.side ended.side before mid first (lead-on g lane w1 given.side ended.side before mid second.0 third.0))))
