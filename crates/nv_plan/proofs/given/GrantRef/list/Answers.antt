use Rattle.std.proofs.Common.{sym}
use Rattle.nv_plan.specs.Drawn.{given_of}
use Rattle.nv_sgl.specs.Parse.{dialogue_of as descriptors_of}
use Rattle.nv_plan.proofs.ListParts.{descriptors-list, listed-descriptors}
use Rattle.nv_plan.proofs.PlanCases.{left-listed}
use Rattle.nv_plan.proofs.StageReads.{left-reserved}
use Rattle.nv_plan.proofs.given.GrantRef.list.Goals as goal

pub returns-in_ok-parse-in-Sgl-clause-sound : goal.returns-in_ok-parse-in-Sgl-clause-sound
returns-in_ok-parse-in-Sgl-clause-sound g c =
    listed-descriptors (given_of c.args.self.now) c.args.sqe.now c.args.buffered (descriptors_of c.in_ok-parse-in-Sgl.parse) c.requires.known c.requires.buffer (sym c.in-Sgl.ensures)
    (descriptors-list c.args.self.now.map.now.regions c.args.self.now.limit c.args.buffered.need c.args.sqe.now (descriptors_of c.in_ok-parse-in-Sgl.parse) c.sgl-first.result c.from-bytes.result
    (sym c.in-Sgl.ensures) c.in_ok-parse-in-Sgl.ensures.dialogue c.sgl-first.ensures c.from-bytes.ensures)

pub returns-in_ok-parse-in-Sgl-clause-ahead : goal.returns-in_ok-parse-in-Sgl-clause-ahead
returns-in_ok-parse-in-Sgl-clause-ahead g c =
    left-listed (given_of c.args.self.now) c.args.sqe.now c.args.buffered.opcode c.args.buffered.need (descriptors_of c.in_ok-parse-in-Sgl.parse) c.requires.known c.requires.buffer
    (descriptors-list c.args.self.now.map.now.regions c.args.self.now.limit c.args.buffered.need c.args.sqe.now (descriptors_of c.in_ok-parse-in-Sgl.parse) c.sgl-first.result c.from-bytes.result
    (sym c.in-Sgl.ensures) c.in_ok-parse-in-Sgl.ensures.dialogue c.sgl-first.ensures c.from-bytes.ensures)

pub returns-in-Reserved-clause-ahead : goal.returns-in-Reserved-clause-ahead
returns-in-Reserved-clause-ahead g c =
    left-reserved (given_of c.args.self.now) c.args.sqe.now c.args.buffered.opcode c.args.buffered.need c.refused.result c.requires.known c.requires.buffer (sym c.in-Reserved.ensures) c.refused.ensures
