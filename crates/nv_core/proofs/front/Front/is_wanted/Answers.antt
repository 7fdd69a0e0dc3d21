use Rattle.std.proofs.Common.{◌≡◌, ◌<◌, ◌∙◌, Option, Some, None, length, slice_get, ap, sym, arith}
use Rattle.std.proofs.lemmas.Option.{slice_get_past}
use Rattle.nv_core.proofs.CallReaps.{unwanted-idle}
use Rattle.nv_core.proofs.GroupWorlds.{looked-up}
use Rattle.nv_core.specs.Reaping.{is_wanted}
use Rattle.nv_laws_sound.specs.Side.{Side}
use Rattle.nv_world_model.specs.World.{Lane}
use Rattle.nv_core.proofs.front.Front.is_wanted.Goals as goal

pub returns-then-at-len-clause-idle : goal.returns-then-at-len-clause-idle
returns-then-at-len-clause-idle c = λ none geometry.
    let nowhere : slice_get c.args.self.now.lanes c.args.lane ≡ None =
    ap (λ (f : Side). slice_get f.lanes c.args.lane) (sym c.self.view_is)
    ∙ slice_get_past c.self.inside.lanes.items c.args.lane (let n = c.from-at.ensures in let l = c.len.ensures in let t = c.if-at-len.true in omega arith) in
    unwanted-idle geometry c.args.self.now c.args.lane c.args.last (omega arith) (ap (λ (o : Option Lane). is_wanted o c.args.last) nowhere)

pub returns-clause-wanted : goal.returns-clause-wanted
returns-clause-wanted c =
    let below : c.from-at.result < length c.self.inside.lanes.items = (let l = c.len.ensures in let n = c.from-at.ensures in let t = c.if-at-len.false in omega arith) in
    let found : slice_get c.args.self.now.lanes c.args.lane ≡ Some c.index.result.now =
    ap (λ (f : Side). slice_get f.lanes c.args.lane) (sym c.self.view_is)
    ∙ looked-up c.self.inside.lanes.items c.args.lane c.from-at.result c.index.result.now c.from-at.ensures below c.index.ensures in
    c.is_new.ensures ∙ ap (λ (o : Option Lane). is_wanted o c.args.last) (sym found)

pub returns-clause-idle : goal.returns-clause-idle
returns-clause-idle c = λ none geometry.
    let below : c.from-at.result < length c.self.inside.lanes.items = (let l = c.len.ensures in let n = c.from-at.ensures in let t = c.if-at-len.false in omega arith) in
    let found : slice_get c.args.self.now.lanes c.args.lane ≡ Some c.index.result.now =
    ap (λ (f : Side). slice_get f.lanes c.args.lane) (sym c.self.view_is)
    ∙ looked-up c.self.inside.lanes.items c.args.lane c.from-at.result c.index.result.now c.from-at.ensures below c.index.ensures in
    unwanted-idle geometry c.args.self.now c.args.lane c.args.last (omega arith)
    (ap (λ (o : Option Lane). is_wanted o c.args.last) found ∙ sym c.is_new.ensures ∙ none)
