use Rattle.std.proofs.Common.{◌∙◌, sym}
use Rattle.nv_host.proofs.Dues.{post-none}
use Rattle.nv_host.proofs.HoldNotes.{held-more}
use Rattle.nv_host.proofs.Made.{made}
use Rattle.nv_host.proofs.host_mediator.HostMediator.note_held.Goals as goal

pub invariant_of-self : goal.invariant_of-self
invariant_of-self c =
    record {
      served = c.self.invariant.served;
      held = held-more c.self.inside.front c.self.inside.holds c.add.new.self c.self.invariant.held c.args.lane c.args.tag c.held_with-held.result
          c.held_with-held.ensures.full c.in-Some.holder (sym c.holder.ensures ∙ c.in-Some.is) c.add.ensures.guests c.add.ensures.tags;
    }

pub returns-then-holder-lt-MOST_GUESTS-clause-others :
    goal.returns-then-holder-lt-MOST_GUESTS-clause-others
returns-then-holder-lt-MOST_GUESTS-clause-others c = λ memory other among.
    let h = made c.self.inside.host_bytes c.self.inside.lanes c.self.inside.layout c.self.inside.front c.self.inside.closed.items c.self.inside.spare.items in
    post-none h c.args.self.now c.self.view_is memory c.args.lane other
    (λ w on. c.held_with-held.ensures.rest c.self.inside.layout other memory w among on)

pub returns-else-lane-lt-MOST_LANES-clause-others :
    goal.returns-else-lane-lt-MOST_LANES-clause-others
returns-else-lane-lt-MOST_LANES-clause-others c = λ memory other among.
    let h = made c.self.inside.host_bytes c.self.inside.lanes c.self.inside.layout c.self.inside.front c.self.inside.closed.items c.self.inside.spare.items in
    post-none h c.args.self.now c.self.view_is memory c.args.lane other
    (λ w on. c.held_with-held.ensures.rest c.self.inside.layout other memory w among on)

pub returns-in_default-clause-others :
    goal.returns-in_default-clause-others
returns-in_default-clause-others c = λ memory other among.
    let h = made c.self.inside.host_bytes c.self.inside.lanes c.self.inside.layout c.self.inside.front c.self.inside.closed.items c.self.inside.spare.items in
    post-none h c.args.self.now c.self.view_is memory c.args.lane other
    (λ w on. c.held_with-held.ensures.rest c.self.inside.layout other memory w among on)
