use Rattle.std.proofs.Common.{length}
use Rattle.nv_plan.proofs.DraftSteps.{read-kept, wanted-next}
use Rattle.nv_plan.proofs.planning.Planning.feed.Goals as goal

pub read_on-requires-clause-wanted : goal.read_on-requires-clause-wanted
read_on-requires-clause-wanted g c =
    wanted-next c.self.inside.draft c.wants.new.self c.self.inside.job c.args.self.now c.in_ok-_next._next c.args.read.addr (length c.args.read.bytes) c.self.invariant c.self.view_is
    c.in_ok-_next.ensures.goes_on c.in_ok-_next.ensures.next c.requires

pub invariant_of-self-2 : goal.invariant_of-self-2
invariant_of-self-2 g c =
    read-kept c.read_on.result c.self.inside.draft c.wants.new.self c.read_on.new.draft c.self.inside.job c.args.read c.read_on.new.reads c.self.invariant c.in_ok-_next.ensures.goes_on
    (wanted-next c.self.inside.draft c.wants.new.self c.self.inside.job c.args.self.now c.in_ok-_next._next c.args.read.addr (length c.args.read.bytes) c.self.invariant c.self.view_is
    c.in_ok-_next.ensures.goes_on c.in_ok-_next.ensures.next c.requires)
    c.read_on.ensures.ok_reads c.read_on.ensures.ok_draft c.read_on.ensures.err_reads c.read_on.ensures.err_draft
