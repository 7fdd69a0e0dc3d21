use Rattle.std.proofs.Common.{arith}
use Rattle.nv_plan.specs.Made.{MadePlan}
use Rattle.nv_plan.proofs.MadeShares.{made-no_more, made-portions}
use Rattle.nv_plan.proofs.plan.Plan.parts.Goals as goal

pub overflow_cast-result : goal.overflow_cast-result
overflow_cast-result c =
    let p : MadePlan = record {
      job = c.self.inside.job;
      given = record { memory_map = c.self.inside.map; namespace = c.self.inside.ns; limit = c.self.inside.limit };
      outline = record { kind = c.self.inside.kind; portions = c.self.inside.portions };
    } in
    let is = c.self.invariant in
    let no_more = made-no_more p is c.len-known.ensures.some in
    let same = made-portions p is in
    let few = c.len-known.ensures.few in
    let count = c.len.ensures in omega arith

pub returns-clause-most : goal.returns-clause-most
returns-clause-most c =
    let p : MadePlan = record {
      job = c.self.inside.job;
      given = record { memory_map = c.self.inside.map; namespace = c.self.inside.ns; limit = c.self.inside.limit };
      outline = record { kind = c.self.inside.kind; portions = c.self.inside.portions };
    } in
    let is = c.self.invariant in
    let no_more = made-no_more p is c.len-known.ensures.some in
    let same = made-portions p is in
    let few = c.len-known.ensures.few in
    let count = c.len.ensures in omega arith
