-- What is due, in each world that a log leads to.
use Rattle.std.proofs.Common.{◌≡◌, ℕ, Bool, false, List, subst, sym}
use Rattle.nv_core.proofs.Alike.{beside-told}
use Rattle.nv_core.specs.Front.{IsBeside, IsLive, IsSideOf}
use Rattle.nv_host.proofs.Accepted.{leads-live}
use Rattle.nv_host.proofs.Rests.{true-false}
use Rattle.nv_host.specs.Served.{IsServed, LeadsTo, Served}
use Rattle.nv_host.specs.Work.{NotDue, scene}
use Rattle.nv_laws_sound.specs.Mediators.{IsMediators}
use Rattle.nv_world_model.specs.Due.{due}
use Rattle.nv_world_model.specs.World.{World}
use Rattle.nv_world_model.specs.declared.event.Event.{Event}
use Rattle.nv_world_model.specs.declared.event.Event.TheVariants as event
use Rattle.nv_world_model.specs.declared.logged.Logged.{Logged}

module _ (h o : Served) (view : h ≡ o) (memory : List ℕ) (b : Bool) where
  pub told-beside : (e : Event) → IsMediators e → ((w : World) → IsSideOf h.side memory w → b ≡ due h.setup.geometry e w)
      → (w : World) → IsBeside o.side memory w → b ≡ due o.setup.geometry e w
  told-beside e mine told =
      subst (λ (x : Served). (w : World) → IsBeside x.side memory w → b ≡ due x.setup.geometry e w) view
      (λ w on. beside-told h.setup.geometry e mine h.side memory b told w on)

  pub told-live : (is : IsServed h) (lane : ℕ)
      → ((w : World) → IsBeside h.side memory w → IsLive h.setup.geometry w → b ≡ due h.setup.geometry (event.Reap lane) w)
      → (first : World) (log : List Logged) (z : World) → LeadsTo o first memory log z → b ≡ due o.setup.geometry (event.Reap lane) z
  told-live is lane told =
      subst (λ (x : Served). (first : World) (log : List Logged) (z : World) → LeadsTo x first memory log z → b ≡ due x.setup.geometry (event.Reap lane) z) view
      (λ first log z leads. told z leads.beside (leads-live h.setup is.accepted is.sound first h.side memory log z leads))

-- a completion that is due nowhere
pub post-none : (h o : Served) → h ≡ o → (memory : List ℕ) (lane tag : ℕ)
    → ((w : World) → IsSideOf h.side memory w → due h.setup.geometry (event.Post lane tag) w ≡ false) → NotDue (scene o memory) (event.Post lane tag)
post-none h o view memory lane tag none w on is =
    true-false (due o.setup.geometry (event.Post lane tag) w) is.1
    (sym (told-beside h o view memory false (event.Post lane tag) tt (λ w on. sym (none w on)) w on))
