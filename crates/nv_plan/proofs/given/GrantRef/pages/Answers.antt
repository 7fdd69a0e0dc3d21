use Rattle.std.proofs.Common.{ap, ◌∙◌, arith}
use Rattle.nv_model.specs.Dialogue.{End}
use Rattle.nv_model.specs.Reading.{Faulty, Spells}
use Rattle.nv_plan.specs.Drawn.{given_of}
use Rattle.nv_prp.specs.Parse.{dialogue_of as pages_of}
use Rattle.nv_plan.proofs.ListParts.{listed-pages, named-list, pages-list}
use Rattle.nv_plan.proofs.PlanCases.{buffer-some, left-listed}
use Rattle.nv_plan.proofs.StageReads.{left-fault}
use Rattle.nv_plan.proofs.given.GrantRef.pages.Goals as goal

pub new-parse-requires-clause-most : goal.new-parse-requires-clause-most
new-parse-requires-clause-most g c =
    let most = (buffer-some (given_of c.args.self.now) c.args.sqe.now c.args.buffered.opcode c.args.buffered.need c.requires.known c.requires.buffer).1 in
    let same = c.from-bytes.ensures in
    omega arith

pub returns-in-Runs-clause-sound : goal.returns-in-Runs-clause-sound
returns-in-Runs-clause-sound g c =
    listed-pages (given_of c.args.self.now) c.args.sqe.now c.args.buffered (End (Spells c.in-Runs.runs)) c.requires.known c.requires.buffer c.requires.prp
    (named-list c.args.self.now.map.now.regions c.args.self.now.limit c.args.buffered.need c.args.sqe.now (Spells c.in-Runs.runs) c.prp1-prp1.result c.prp2-prp2.result c.from-bytes.result
    c.requires.prp c.in-Runs.ensures c.prp1-prp1.ensures c.prp2-prp2.ensures c.from-bytes.ensures)
    (buffer-some (given_of c.args.self.now) c.args.sqe.now c.args.buffered.opcode c.args.buffered.need c.requires.known c.requires.buffer).1

pub returns-in-Runs-clause-ahead : goal.returns-in-Runs-clause-ahead
returns-in-Runs-clause-ahead g c =
    left-listed (given_of c.args.self.now) c.args.sqe.now c.args.buffered.opcode c.args.buffered.need (End (Spells c.in-Runs.runs)) c.requires.known c.requires.buffer
    (named-list c.args.self.now.map.now.regions c.args.self.now.limit c.args.buffered.need c.args.sqe.now (Spells c.in-Runs.runs) c.prp1-prp1.result c.prp2-prp2.result c.from-bytes.result
    c.requires.prp c.in-Runs.ensures c.prp1-prp1.ensures c.prp2-prp2.ensures c.from-bytes.ensures)

pub returns-in-Fault-clause-ahead : goal.returns-in-Fault-clause-ahead
returns-in-Fault-clause-ahead g c =
    left-fault (given_of c.args.self.now) c.args.sqe.now c.args.buffered.opcode c.args.buffered.need c.in-Fault.code c.refused.result c.requires.known c.requires.buffer
    (named-list c.args.self.now.map.now.regions c.args.self.now.limit c.args.buffered.need c.args.sqe.now (Faulty c.in-Fault.code) c.prp1-prp1.result c.prp2-prp2.result c.from-bytes.result
    c.requires.prp c.in-Fault.ensures c.prp1-prp1.ensures c.prp2-prp2.ensures c.from-bytes.ensures)
    c.refused.ensures

pub returns-in_ok-new-in-FirstPage-clause-sound : goal.returns-in_ok-new-in-FirstPage-clause-sound
returns-in_ok-new-in-FirstPage-clause-sound g c =
    listed-pages (given_of c.args.self.now) c.args.sqe.now c.args.buffered (pages_of c.in_ok-new-in-FirstPage.field-0.value) c.requires.known c.requires.buffer c.requires.prp
    (pages-list c.args.self.now.map.now.regions c.args.self.now.limit c.args.buffered.need c.args.sqe.now (pages_of c.in_ok-new-in-FirstPage.field-0.value) c.prp1-prp1.result c.prp2-prp2.result c.from-bytes.result
    c.requires.prp (ap pages_of c.in_ok-new-in-FirstPage.ensures.ok ∙ c.new-parse.ensures.sized) c.prp1-prp1.ensures c.prp2-prp2.ensures c.from-bytes.ensures)
    (buffer-some (given_of c.args.self.now) c.args.sqe.now c.args.buffered.opcode c.args.buffered.need c.requires.known c.requires.buffer).1

pub returns-in_ok-new-in-FirstPage-clause-ahead : goal.returns-in_ok-new-in-FirstPage-clause-ahead
returns-in_ok-new-in-FirstPage-clause-ahead g c =
    left-listed (given_of c.args.self.now) c.args.sqe.now c.args.buffered.opcode c.args.buffered.need (pages_of c.in_ok-new-in-FirstPage.field-0.value) c.requires.known c.requires.buffer
    (pages-list c.args.self.now.map.now.regions c.args.self.now.limit c.args.buffered.need c.args.sqe.now (pages_of c.in_ok-new-in-FirstPage.field-0.value) c.prp1-prp1.result c.prp2-prp2.result c.from-bytes.result
    c.requires.prp (ap pages_of c.in_ok-new-in-FirstPage.ensures.ok ∙ c.new-parse.ensures.sized) c.prp1-prp1.ensures c.prp2-prp2.ensures c.from-bytes.ensures)
