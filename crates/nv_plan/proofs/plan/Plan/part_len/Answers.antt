use Rattle.std.proofs.Common.{◌≡◌, ◌<◌, ◌*◌, inl, inr, false, length, Some, sym, ap, subst, ◌∙◌, arith}
use Rattle.nv_model.specs.Judge.{form_of, has_buffer}
use Rattle.nv_world_model.specs.Share.{Share}
use Rattle.nv_plan.specs.Made.{MadePlan, share_made, shares_made}
use Rattle.nv_plan.specs.Parts.{len_in, ranges_of}
use Rattle.nv_plan.proofs.OwnParts.{made-own, share-at}
use Rattle.nv_plan.proofs.PartLaws.{places-most, told-manage, told-none, told-transfer}
use Rattle.nv_plan.proofs.PlanCases.{transfer-form}
use Rattle.nv_plan.proofs.plan.Plan.part_len.Goals as goal

pub unreachable-requires : goal.unreachable-requires
unreachable-requires c =
    let p : MadePlan = record {
      job = c.self.inside.job;
      given = record { memory_map = c.self.inside.map; namespace = c.self.inside.ns; limit = c.self.inside.limit };
      outline = record { kind = c.self.inside.kind; portions = c.self.inside.portions };
    } in
    let at = share-at p c.args.part (subst (λ (q : MadePlan). c.args.part < length (shares_made q)) (sym c.self.view_is) c.requires) in
    c.in_default.not-Some (made-own p c.args.part at.0 c.self.invariant at.1).work.opcode
    (c.io_opcode.ensures ∙ (made-own p c.args.part at.0 c.self.invariant at.1).goes.sound.opcode)

read-value : (c : goal.After-count) (share : Share) → share_made c.args.part c.args.self.now ≡ Some share → 512 * c.count.result ≡ len_in share.plan
read-value c share there =
    let p : MadePlan = record {
      job = c.self.inside.job;
      given = record { memory_map = c.self.inside.map; namespace = c.self.inside.ns; limit = c.self.inside.limit };
      outline = record { kind = c.self.inside.kind; portions = c.self.inside.portions };
    } in
    let here = subst (λ (q : MadePlan). share_made c.args.part q ≡ Some share) (sym c.self.view_is) there in
    let form = transfer-form c.in-Some.opcode c.in-Read.is in
    told-transfer p c.args.part share c.in-Some.opcode form.0 c.count.result c.self.invariant here (sym c.io_opcode.ensures ∙ c.in-Some.is) form.1
    (λ work has. c.count.ensures.value ∙ (c.part_blocks.ensures.value share work there has).1)

pub returns-in-Read-clause-value : goal.returns-in-Read-clause-value
returns-in-Read-clause-value c = read-value c

pub returns-in-Read-clause-most : goal.returns-in-Read-clause-most
returns-in-Read-clause-most c =
    let p : MadePlan = record {
      job = c.self.inside.job;
      given = record { memory_map = c.self.inside.map; namespace = c.self.inside.ns; limit = c.self.inside.limit };
      outline = record { kind = c.self.inside.kind; portions = c.self.inside.portions };
    } in
    let at = share-at p c.args.part (subst (λ (q : MadePlan). c.args.part < length (shares_made q)) (sym c.self.view_is) c.requires) in
    let there = subst (λ (q : MadePlan). share_made c.args.part q ≡ Some at.0) c.self.view_is at.1 in
    let value = read-value c at.0 there in
    let most = places-most p c.args.part at.0 c.self.invariant at.1 in omega arith

ranges-value : (c : goal.After-part_ranges) (share : Share) → share_made c.args.part c.args.self.now ≡ Some share
    → 16 * length c.part_ranges.result.now ≡ len_in share.plan
ranges-value c share there =
    let p : MadePlan = record {
      job = c.self.inside.job;
      given = record { memory_map = c.self.inside.map; namespace = c.self.inside.ns; limit = c.self.inside.limit };
      outline = record { kind = c.self.inside.kind; portions = c.self.inside.portions };
    } in
    let here = subst (λ (q : MadePlan). share_made c.args.part q ≡ Some share) (sym c.self.view_is) there in
    told-manage p c.args.part share c.in-Some.opcode c.part_ranges.result.now c.self.invariant here (sym c.io_opcode.ensures ∙ c.in-Some.is) (ap form_of c.in-DatasetManagement.is)
    (c.part_ranges.ensures.value share there ∙ ap (λ (q : MadePlan). ranges_of q.given.namespace share.plan) (sym c.self.view_is))

pub returns-in-DatasetManagement-clause-value : goal.returns-in-DatasetManagement-clause-value
returns-in-DatasetManagement-clause-value c = ranges-value c

pub returns-in-DatasetManagement-clause-most : goal.returns-in-DatasetManagement-clause-most
returns-in-DatasetManagement-clause-most c =
    let p : MadePlan = record {
      job = c.self.inside.job;
      given = record { memory_map = c.self.inside.map; namespace = c.self.inside.ns; limit = c.self.inside.limit };
      outline = record { kind = c.self.inside.kind; portions = c.self.inside.portions };
    } in
    let at = share-at p c.args.part (subst (λ (q : MadePlan). c.args.part < length (shares_made q)) (sym c.self.view_is) c.requires) in
    let there = subst (λ (q : MadePlan). share_made c.args.part q ≡ Some at.0) c.self.view_is at.1 in
    let value = ranges-value c at.0 there in
    let most = places-most p c.args.part at.0 c.self.invariant at.1 in omega arith

pub returns-in-Flush-clause-value : goal.returns-in-Flush-clause-value
returns-in-Flush-clause-value c = λ share there.
    let p : MadePlan = record {
      job = c.self.inside.job;
      given = record { memory_map = c.self.inside.map; namespace = c.self.inside.ns; limit = c.self.inside.limit };
      outline = record { kind = c.self.inside.kind; portions = c.self.inside.portions };
    } in
    let here = subst (λ (q : MadePlan). share_made c.args.part q ≡ Some share) (sym c.self.view_is) there in
    let none : has_buffer c.in-Some.opcode ≡ false = elim c.in-Flush.is [ inl is ↦ ap has_buffer is | inr is ↦ ap has_buffer is ] in
    told-none p c.args.part share c.in-Some.opcode c.self.invariant here (sym c.io_opcode.ensures ∙ c.in-Some.is) none
