use Rattle.std.proofs.Common.{◌≡◌, ◌<◌, length, slice_get, None, Some, sym, ap, subst, ◌∙◌, arith}
use Rattle.nv_entry.specs.Submission.{slba_of}
use Rattle.nv_model.specs.Judge.{count_of}
use Rattle.nv_ns.specs.Extents.{Cut, cuts, place_in}
use Rattle.nv_plan.specs.Made.{MadePlan, share_made, shares_made}
use Rattle.nv_world_model.specs.ShareArea.{first_lba}
use Rattle.nv_plan.proofs.OwnParts.{NamesRun, blocks-cut, blocks-few, blocks-inside, blocks-told}
use Rattle.nv_plan.proofs.plan.Plan.part_blocks.Goals as goal

pub part-requires : goal.part-requires
part-requires c =
    let p : MadePlan = record {
      job = c.self.inside.job;
      given = record { memory_map = c.self.inside.map; namespace = c.self.inside.ns; limit = c.self.inside.limit };
      outline = record { kind = c.self.inside.kind; portions = c.self.inside.portions };
    } in
    let below = subst (λ (q : MadePlan). c.args.part < length (shares_made q)) (sym c.self.view_is) c.requires.part in
    let names = subst NamesRun (sym c.self.view_is) c.requires.blocks in
    blocks-inside p c.args.part c.self.invariant below names

pub unreachable-requires : goal.unreachable-requires
unreachable-requires c =
    let p : MadePlan = record {
      job = c.self.inside.job;
      given = record { memory_map = c.self.inside.map; namespace = c.self.inside.ns; limit = c.self.inside.limit };
      outline = record { kind = c.self.inside.kind; portions = c.self.inside.portions };
    } in
    let below = subst (λ (q : MadePlan). c.args.part < length (shares_made q)) (sym c.self.view_is) c.requires.part in
    let names = subst NamesRun (sym c.self.view_is) c.requires.blocks in
    let cut = blocks-cut p c.args.part c.self.invariant below names in
    never cut.0
    (sym c.in-None.is ∙ c.part.ensures.value
    ∙ ap (slice_get (cuts c.self.inside.ns (slba_of c.self.inside.job.sqe) (count_of c.self.inside.job.sqe))) c.from.ensures ∙ cut.1)
  where
    never : (cut : Cut) → None ≡ Some cut → ⊥
    never cut e = cc

pub returns-clause-value : goal.returns-clause-value
returns-clause-value c = λ share work there has.
    let p : MadePlan = record {
      job = c.self.inside.job;
      given = record { memory_map = c.self.inside.map; namespace = c.self.inside.ns; limit = c.self.inside.limit };
      outline = record { kind = c.self.inside.kind; portions = c.self.inside.portions };
    } in
    let names = subst NamesRun (sym c.self.view_is) c.requires.blocks in
    let meets = sym (ap (slice_get (cuts c.self.inside.ns (slba_of c.self.inside.job.sqe) (count_of c.self.inside.job.sqe))) c.from.ensures)
    ∙ sym c.part.ensures.value ∙ c.in-Some.is in
    let here = subst (λ (q : MadePlan). share_made c.args.part q ≡ Some share) (sym c.self.view_is) there in
    subst (λ (q : MadePlan). (c.in-Some.part.start ≡ place_in q.given.namespace (first_lba work.units)) × (c.in-Some.part.count ≡ length work.units)) c.self.view_is
    (blocks-told p c.args.part share work c.in-Some.part c.self.invariant here has names meets)

pub returns-clause-most : goal.returns-clause-most
returns-clause-most c =
    let p : MadePlan = record {
      job = c.self.inside.job;
      given = record { memory_map = c.self.inside.map; namespace = c.self.inside.ns; limit = c.self.inside.limit };
      outline = record { kind = c.self.inside.kind; portions = c.self.inside.portions };
    } in
    let meets = sym (ap (slice_get (cuts c.self.inside.ns (slba_of c.self.inside.job.sqe) (count_of c.self.inside.job.sqe))) c.from.ensures)
    ∙ sym c.part.ensures.value ∙ c.in-Some.is in
    let few = blocks-few p c.args.part c.in-Some.part meets in
    let short = c.part.ensures.short in omega arith
