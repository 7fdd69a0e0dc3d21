use Rattle.std.proofs.Common.{sym, ap, subst, ◌∙◌}
use Rattle.nv_model.proofs.Shown.{first_read-length}
use Rattle.nv_plan.specs.Drafted.{IsUnmet, ahead_of}
use Rattle.nv_plan.specs.declared.draft.Ahead.{Ahead}
use Rattle.nv_plan.specs.declared.draft.Ahead.TheVariants as ahead
use Rattle.nv_plan.proofs.DraftSteps.{catching-read, catching-same, catching-start, caught-up}
use Rattle.nv_plan.proofs.draft.Draft.catch_up.Goals as goal

pub reads-init : goal.reads-init
reads-init g c = catching-start c.args.job.now c.args.self.now c.all-reads.result c.requires c.all-reads.ensures

pub wants-requires : goal.wants-requires
wants-requires g c = c.reads.invariant.sound

pub returns-in_default : goal.returns-in_default
returns-in_default g c =
    let on = catching-same c.args.self.now.given c.args.job.now c.reads.self c.wants.new.self c.reads.reads c.reads.invariant c.in_ok-next.ensures.goes_on in
    record {
      own = on.own;
      under_way = caught-up c.args.self.now.given c.args.job.now c.wants.new.self c.reads.reads on
          (subst (λ (a : Ahead). IsUnmet a c.reads.reads) (sym (c.in_ok-next.ensures.next ∙ ap ahead_of c.in_default.is)) tt);
      wants = c.in_ok-next.ensures.next;
    }

pub returns-in_default-take : goal.returns-in_default-take
returns-in_default-take g c =
    let on = catching-same c.args.self.now.given c.args.job.now c.reads.self c.wants.new.self c.reads.reads c.reads.invariant c.in_ok-next.ensures.goes_on in
    record {
      own = on.own;
      under_way = caught-up c.args.self.now.given c.args.job.now c.wants.new.self c.reads.reads on
          (subst (λ (a : Ahead). IsUnmet a c.reads.reads) (sym (c.in_ok-next.ensures.next ∙ ap ahead_of c.in-Read.is)) c.in_default-take.ensures.first);
      wants = c.in_ok-next.ensures.next ∙ ap ahead_of c.in-Read.is;
    }

pub feed-requires-clause-wanted : goal.feed-requires-clause-wanted
feed-requires-clause-wanted g c = (
  c.in-Read.addr,
  c.in_ok-next.ensures.next ∙ ap ahead_of c.in-Read.is
      ∙ ap (ahead.Read c.in-Read.addr) (sym (first_read-length c.in-Read.addr c.in-Read.len c.reads.reads (c.in-Some.part.now, c.take.new.self) c.in-Some.ensures.first)),
)

pub reads-preserved : goal.reads-preserved
reads-preserved g c =
    let on = catching-same c.args.self.now.given c.args.job.now c.reads.self c.wants.new.self c.reads.reads c.reads.invariant c.in_ok-next.ensures.goes_on in
    let many = first_read-length c.in-Read.addr c.in-Read.len c.reads.reads (c.in-Some.part.now, c.take.new.self) c.in-Some.ensures.first in
    catching-read c.args.self.now.given c.args.job.now c.wants.new.self c.feed.new.self c.reads.reads c.in-Read.addr c.in-Read.len c.in-Some.part.now c.take.new.self on
    (c.in_ok-next.ensures.next ∙ ap ahead_of c.in-Read.is) many c.in-Some.ensures.first c.in_ok-feed.ensures.ok
