use Rattle.std.proofs.Common.{sym, ◌∙◌}
use Rattle.nv_tags.specs.Tags.{slot_at}
use Rattle.nv_tags.proofs.Slots.{leader-seen, leads-by, there}
use Rattle.nv_tags.proofs.tags.Tags.leader.Goals as goal

pub bounds-self-inside-from : goal.bounds-self-inside-from
bounds-self-inside-from c =
    there c.self.inside.states c.self.inside.claims c.self.inside.leaders c.self.inside.groups c.self.invariant.0 c.args.self.now c.self.view_is
    c.args.tag c.from.result c.from.ensures c.requires.used

pub returns-clause-value : goal.returns-clause-value
returns-clause-value c =
    leader-seen c.self.inside.states c.self.inside.claims c.self.inside.leaders c.self.inside.groups c.self.invariant.0 c.args.self.now c.self.view_is
    c.args.tag c.from.result c.from.ensures c.requires.used

pub returns-clause-there : goal.returns-clause-there
returns-clause-there c =
    c.self.invariant.0.led c.from.result
    (there c.self.inside.states c.self.inside.claims c.self.inside.leaders c.self.inside.groups c.self.invariant.0 c.args.self.now c.self.view_is
    c.args.tag c.from.result c.from.ensures c.requires.used)

pub returns-clause-leads : goal.returns-clause-leads
returns-clause-leads c = λ own.
    leads-by (slot_at c.args.self.now c.args.tag) c.args.tag c.requires.used
    (sym (leader-seen c.self.inside.states c.self.inside.claims c.self.inside.leaders c.self.inside.groups c.self.invariant.0 c.args.self.now c.self.view_is
    c.args.tag c.from.result c.from.ensures c.requires.used) ∙ own)
