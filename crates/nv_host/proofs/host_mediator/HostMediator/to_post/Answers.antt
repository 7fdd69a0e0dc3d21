use Rattle.std.proofs.Common.{◌∙◌, ℕ, List, ap, slice_get, subst}
use Rattle.nv_core.specs.News.{others, tags_at}
use Rattle.nv_core.specs.Tags.{ended_in}
use Rattle.nv_host.proofs.HoldNotes.{none-posts}
use Rattle.nv_host.specs.Holds.{AreHeld}
use Rattle.nv_host.specs.Served.{Served}
use Rattle.nv_host.specs.Work.{scene}
use Rattle.nv_host.proofs.host_mediator.HostMediator.to_post.Goals as goal

pub returns : goal.returns
returns c = λ memory tag out.
    none-posts (scene c.args.self.now memory) c.self.inside.holds
    (subst (λ (x : Served). AreHeld x.side c.self.inside.holds) c.self.view_is c.self.invariant.held) c.args.lane c.drop_all.new.self
    (c.drop_all.ensures ∙ ap (λ (xs : List ℕ). others xs c.ended-ended.result) c.of_lane.ensures
    ∙ ap (others (tags_at c.self.inside.holds.tags c.args.lane)) c.ended-ended.ensures
    ∙ ap (λ (x : Served). others (tags_at c.self.inside.holds.tags c.args.lane) (ended_in (slice_get x.side.lanes c.args.lane))) c.self.view_is)
    tag out
