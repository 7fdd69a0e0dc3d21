use Rattle.std.proofs.Common.{◌≡◌, ◌*◌, true, false, ap, subst, ◌∙◌, arith, length}
use Rattle.nv_judge.specs.declared.need.Need.{Need}
use Rattle.nv_model.specs.Judge.{count_of}
use Rattle.nv_flat.specs.declared.lists.Listed.{Listed}
use Rattle.nv_flat.specs.Listed.{IsListed, list_reading}
use Rattle.nv_flat.proofs.DoneLemmas.{buffered, list-refused, transfer-at_most, transfer-done, transfer-needs, transfer-some}
use Rattle.nv_flat.proofs.PieceLemmas.{spelled-usable}
use Rattle.nv_flat.proofs.controller.FlatController.transfer.Goals as goal

pub returns-in-Refused-clause-ok : goal.returns-in-Refused-clause-ok
returns-in-Refused-clause-ok c =
    let L : Listed → Type 0 = λ l. IsListed l (list_reading c.args.self.now c.args.sqe.now c.args.need) in
    list-refused c.args.self.now c.args.sqe.now c.args.opcode c.args.need c.in-Refused.status c.requires.in_order
    (buffered c.args.opcode c.requires.transfer).0 (subst L c.in-Refused.is c.in_ok-status.ensures)

pub move_blocks-requires-clause-in_memory : goal.move_blocks-requires-clause-in_memory
move_blocks-requires-clause-in_memory c =
    let L : Listed → Type 0 = λ l. IsListed l (list_reading c.args.self.now c.args.sqe.now c.args.need) in
    (spelled-usable c.args.self.now c.args.sqe.now c.args.need c.in-Named.places (subst L c.in-Named.is c.in_ok-status.ensures)).below

pub move_blocks-requires-clause-enough : goal.move_blocks-requires-clause-enough
move_blocks-requires-clause-enough c =
    let L : Listed → Type 0 = λ l. IsListed l (list_reading c.args.self.now c.args.sqe.now c.args.need) in
    let total = (spelled-usable c.args.self.now c.args.sqe.now c.args.need c.in-Named.places (subst L c.in-Named.is c.in_ok-status.ensures)).total in
    let needs = transfer-needs c.args.sqe.now c.args.opcode c.requires.transfer in
    let blocks : c.args.need.blocks ≡ count_of c.args.sqe.now = ap (λ (n : Need). n.blocks) c.requires.in_order.needs ∙ needs.0 in
    let bytes : c.args.need.bytes ≡ 512 * count_of c.args.sqe.now = ap (λ (n : Need). n.bytes) c.requires.in_order.needs ∙ needs.1 in
    let count = c.from-count.ensures in
    omega arith

pub returns-then-move_blocks-clause-ok : goal.returns-then-move_blocks-clause-ok
returns-then-move_blocks-clause-ok c =
    let L : Listed → Type 0 = λ l. IsListed l (list_reading c.args.self.now c.args.sqe.now c.args.need) in
    transfer-done c.args.self.now c.move_blocks.new.self c.args.sqe.now c.args.opcode c.args.need c.in-Named.places c.slba.result c.from-count.result
    c.move_blocks.result true c.status.result c.requires.in_order c.requires.transfer (subst L c.in-Named.is c.in_ok-status.ensures)
    c.slba.ensures c.from-count.ensures c.if-move_blocks.true c.status.ensures c.move_blocks.ensures.moved

pub returns-clause-ok : goal.returns-clause-ok
returns-clause-ok c =
    let L : Listed → Type 0 = λ l. IsListed l (list_reading c.args.self.now c.args.sqe.now c.args.need) in
    transfer-done c.args.self.now c.move_blocks.new.self c.args.sqe.now c.args.opcode c.args.need c.in-Named.places c.slba.result c.from-count.result
    c.move_blocks.result false c.status-else-move_blocks.result c.requires.in_order c.requires.transfer (subst L c.in-Named.is c.in_ok-status.ensures)
    c.slba.ensures c.from-count.ensures c.if-move_blocks.false c.status-else-move_blocks.ensures c.move_blocks.ensures.moved

pub read_list-requires-clause-most : goal.read_list-requires-clause-most
read_list-requires-clause-most c =
    transfer-at_most (length c.args.self.now.disk) c.args.sqe.now c.args.opcode c.args.need c.requires.in_order c.requires.transfer

pub read_list-requires-clause-some : goal.read_list-requires-clause-some
read_list-requires-clause-some c =
    transfer-some (length c.args.self.now.disk) c.args.sqe.now c.args.opcode c.args.need c.requires.in_order c.requires.transfer
