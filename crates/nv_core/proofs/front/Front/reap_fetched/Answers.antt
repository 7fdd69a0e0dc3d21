use Rattle.std.proofs.Common.{◌≡◌, ◌<◌, ◌∙◌, Some, length, slice_get, ap, sym, arith}
use Rattle.nv_core.proofs.CallReaps.{reap-astray, reap-ended, reap-nowhere, reap-unwanted}
use Rattle.nv_core.proofs.GroupWorlds.{looked-up}
use Rattle.nv_core.proofs.ReapAnswers.{named-flies}
use Rattle.nv_core.proofs.Reaps.{aloft}
use Rattle.nv_core.specs.Reaping.{names_command}
use Rattle.nv_laws_sound.specs.Side.{Side}
use Rattle.nv_world_model.specs.World.{Lane}
use Rattle.nv_core.proofs.front.Front.reap_fetched.Goals as goal

pub returns-then-at-len-clause-call : goal.returns-then-at-len-clause-call
returns-then-at-len-clause-call c = λ geometry.
    let s : Side = record { lanes = c.self.inside.lanes.items; tails = c.self.inside.tails.items; controllers = c.self.inside.controllers.items } in
    reap-nowhere geometry s c.args.self.now c.args.lane c.args.first c.args.last (omega arith) c.self.view_is
    (let n = c.from-at.ensures in let l = c.len.ensures in let t = c.if-at-len.true in omega arith)

pub returns-then-not-is_new-clause-call : goal.returns-then-not-is_new-clause-call
returns-then-not-is_new-clause-call c = λ geometry.
    let s : Side = record { lanes = c.self.inside.lanes.items; tails = c.self.inside.tails.items; controllers = c.self.inside.controllers.items } in
    let below : c.from-at.result < length c.self.inside.lanes.items = (let l = c.len.ensures in let n = c.from-at.ensures in let t = c.if-at-len.false in omega arith) in
    let l : Lane = c.index_mut-ring.result.now in
    let found : slice_get s.lanes c.args.lane ≡ Some l = looked-up s.lanes c.args.lane c.from-at.result l c.from-at.ensures below c.index_mut-ring.ensures.value in
    reap-unwanted geometry s c.args.self.now c.args.lane c.args.first c.args.last (omega arith) c.self.view_is l found c.from-at.result c.from-at.ensures
    (sym c.is_new.ensures ∙ c.if-not-is_new.true)

pub returns-then-not-names_command-clause-call : goal.returns-then-not-names_command-clause-call
returns-then-not-names_command-clause-call c = λ geometry.
    let s : Side = record { lanes = c.self.inside.lanes.items; tails = c.self.inside.tails.items; controllers = c.self.inside.controllers.items } in
    let below : c.from-at.result < length c.self.inside.lanes.items = (let l = c.len.ensures in let n = c.from-at.ensures in let t = c.if-at-len.false in omega arith) in
    let l : Lane = c.index_mut-ring.result.now in
    let found : slice_get s.lanes c.args.lane ≡ Some l = looked-up s.lanes c.args.lane c.from-at.result l c.from-at.ensures below c.index_mut-ring.ensures.value in
    reap-astray geometry s c.args.self.now c.args.lane c.args.first c.args.last (omega arith) c.self.view_is l found (sym c.is_new.ensures ∙ c.if-not-is_new.false)
    c.from-at.result c.from-at.ensures
    (ap (names_command c.args.lane l) (sym c.completion_of-completion.ensures) ∙ sym c.names_command.ensures.named ∙ c.if-not-names_command.true)

pub returns-clause-call : goal.returns-clause-call
returns-clause-call c = λ geometry.
    let s : Side = record { lanes = c.self.inside.lanes.items; tails = c.self.inside.tails.items; controllers = c.self.inside.controllers.items } in
    let below : c.from-at.result < length c.self.inside.lanes.items = (let l = c.len.ensures in let n = c.from-at.ensures in let t = c.if-at-len.false in omega arith) in
    let l : Lane = c.index_mut-ring.result.now in
    let found : slice_get s.lanes c.args.lane ≡ Some l = looked-up s.lanes c.args.lane c.from-at.result l c.from-at.ensures below c.index_mut-ring.ensures.value in
    let f = aloft (slice_get l.tags c.cid-identifier.result) (named-flies c.args.lane l c.completion_of-completion.result c.cid-identifier.result c.cid-identifier.ensures
    (sym c.names_command.ensures.named ∙ c.if-not-names_command.false)) in
    reap-ended geometry s c.args.self.now c.args.lane c.args.first c.args.last (omega arith) c.self.view_is l found (sym c.is_new.ensures ∙ c.if-not-is_new.false)
    c.from-at.result c.cid-identifier.result c.end_with.new.self c.read_completion.new.self c.completion_of-completion.result c.status.result c.passed_on.result
    f.command f.share f.at c.from-at.ensures c.completion_of-completion.ensures (sym c.names_command.ensures.named ∙ c.if-not-names_command.false)
    c.cid-identifier.ensures f.is c.status.ensures c.passed_on.ensures c.end_with.ensures c.read_completion.ensures
