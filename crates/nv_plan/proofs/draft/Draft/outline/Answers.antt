use Rattle.std.proofs.Common.{◌/◌, ℕ, List, length, replicate, sym, ap, subst, ◌∙◌, arith}
use Rattle.std.proofs.lemmas.Result.{IfOk-weaker}
use Rattle.nv_entry.specs.declared.opcode.IoOpcode.TheVariants.{DatasetManagement}
use Rattle.nv_judge.specs.Need.{need_of}
use Rattle.nv_model.specs.Judge.{judge_ranges, ranges_in}
use Rattle.nv_model.specs.Transcript.{Settled}
use Rattle.nv_model.proofs.InParts.{ranges-short}
use Rattle.nv_ns.specs.Extents.{blocks_in}
use Rattle.nv_world_model.specs.Plan.{plan_of}
use Rattle.nv_plan.specs.Drafted.{IsSoundStage, next_at}
use Rattle.nv_plan.specs.Drawn.{given_of}
use Rattle.nv_plan.specs.Outline.{Outline, Portion, outline_of}
use Rattle.nv_plan.specs.declared.kind.PlanKind.TheVariants as kind
use Rattle.nv_plan.proofs.PlanCases.{nothing, says-no_data, says-refused}
use Rattle.nv_plan.proofs.StageReads.{source-says, stage-bytes, stage-says}
use Rattle.nv_plan.proofs.draft.Draft.outline.Goals as goal

pub ranged-requires-clause-whole : goal.ranged-requires-clause-whole
ranged-requires-clause-whole g c =
    let many = ap length c.deref-in-Ranges.ensures.value ∙ stage-bytes (given_of c.args.self.now.given) c.args.self.now.sqe c.args.self.now.stage c.in-Ranges.source c.in-Ranges.is c.requires.sound c.requires.end in
    omega arith

pub ranged-requires-clause-short : goal.ranged-requires-clause-short
ranged-requires-clause-short g c =
    let many = ap length c.deref-in-Ranges.ensures.value ∙ stage-bytes (given_of c.args.self.now.given) c.args.self.now.sqe c.args.self.now.stage c.in-Ranges.source c.in-Ranges.is c.requires.sound c.requires.end in
    let short = ranges-short c.args.self.now.sqe in
    omega arith

pub returns-in-Refused : goal.returns-in-Refused
returns-in-Refused g c = λ reads.
    ap (λ (o : Outline). Settled o) c.answer.ensures
    ∙ says-refused (given_of c.args.self.now.given) c.args.self.now.sqe c.in-Refused.status reads
    ∙ sym (stage-says (given_of c.args.self.now.given) c.args.self.now.sqe _ _ reads c.in-Refused.is)

pub returns-in-Bare : goal.returns-in-Bare
returns-in-Bare g c = λ reads.
    let own = subst (λ s. IsSoundStage (given_of c.args.self.now.given) c.args.self.now.sqe s) c.in-Bare.is c.requires.sound in
    ap (λ (o : Outline). Settled o) (c.new.ensures
    ∙ ap (λ (ps : List Portion). record { kind = kind.NoData; portions = ps }) (c.bare-portions.ensures
    ∙ ap (λ (n : ℕ). replicate n nothing) c.tags_wanted.ensures.value))
    ∙ says-no_data (given_of c.args.self.now.given) c.args.self.now.sqe reads c.in-Bare.field-0 (need_of c.args.self.now.sqe c.in-Bare.field-0) own.0 own.1
    ∙ sym (stage-says (given_of c.args.self.now.given) c.args.self.now.sqe _ _ reads c.in-Bare.is)

pub returns-in-Ranges : goal.returns-in-Ranges
returns-in-Ranges g c =
    IfOk-weaker c.ranged.result _ _ (λ outline says. λ reads.
    source-says (given_of c.args.self.now.given) c.args.self.now.sqe c.in-Ranges.source outline reads
    (subst (λ s. IsSoundStage (given_of c.args.self.now.given) c.args.self.now.sqe s) c.in-Ranges.is c.requires.sound) (ap (λ s. next_at s) (sym c.in-Ranges.is) ∙ c.requires.end)
    (says c.args.self.now.sqe c.in-Ranges.source.places
    ∙ ap (λ (bs : List ℕ). outline_of c.args.self.now.given.ns.now c.args.self.now.sqe (plan_of c.args.self.now.given.map.now.regions (judge_ranges (blocks_in c.args.self.now.given.ns.now) DatasetManagement c.args.self.now.sqe c.in-Ranges.source.places (ranges_in (length bs / 16) bs)))) c.deref-in-Ranges.ensures.value)
    ∙ sym (stage-says (given_of c.args.self.now.given) c.args.self.now.sqe _ _ reads c.in-Ranges.is))
    c.ranged.ensures
