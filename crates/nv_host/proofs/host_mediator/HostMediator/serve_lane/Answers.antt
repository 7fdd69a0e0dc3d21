use Rattle.std.proofs.Common.{◌≡◌, ℕ, List, [], false, refl, slice_get, subst, sym, ◌∙◌}
use Rattle.nv_core.specs.Reaping.{waits_in}
use Rattle.nv_core.specs.Tags.{ended_in}
use Rattle.nv_host.proofs.Calls.{served-lent}
use Rattle.nv_host.proofs.Made.{made}
use Rattle.nv_host.proofs.Marked.{no-news, no-part}
use Rattle.nv_host.proofs.Rounds.{pass-none}
use Rattle.nv_host.specs.Served.{Served}
use Rattle.nv_host.specs.Work.{Rests, Scene, scene}
use Rattle.nv_host.specs.declared.worked.Scope.TheVariants as scope
use Rattle.nv_host.proofs.host_mediator.HostMediator.serve_lane.Goals as goal

pub has_news-requires : goal.has_news-requires
has_news-requires g c =
    let h = made c.self.inside.host_bytes c.self.inside.lanes c.self.inside.layout c.self.inside.front c.self.inside.closed.items c.self.inside.spare.items in
    served-lent h c.args.self.now c.self.view_is c.self.invariant.served (g.C.MemoryCell.bytes c.args.memory.now) c.requires.lent

pub returns-then-not-has_news-clause-pass : goal.returns-then-not-has_news-clause-pass
returns-then-not-has_news-clause-pass g c =
    let memory : List ℕ = g.C.MemoryCell.bytes c.args.memory.now in
    let a : Scene = scene c.args.self.now memory in
    let none = subst
    (λ (x : Served). (waits_in x.setup.geometry c.args.lane (slice_get x.side.lanes c.args.lane) memory ≡ false) × (ended_in (slice_get x.side.lanes c.args.lane) ≡ []))
    c.self.view_is (no-part _ _ (sym c.has_news.ensures ∙ c.if-not-has_news.true)) in
    pass-none (scope.Lane c.args.lane) (Rests (scope.Lane c.args.lane) a) c.args.most c.so_far.result a a c.so_far.ensures refl
    (no-news a c.args.lane none.0 none.1)
