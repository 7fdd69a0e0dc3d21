use Rattle.std.proofs.Common.{◌/◌, ◌<◌, length, arith, refl, ◌∙◌}
use Rattle.nv_zeroed.proofs.Lists.{read-part, seat, told-some}
use Rattle.nv_zeroed.proofs.zeroed.Zeroed.load_part.Goals as goal

pub index-requires : goal.index-requires
index-requires c =
    let some : 0 < length c.args.out.now = told-some _ _ c.is_empty.ensures c.if-is_empty.false in
    let below : c.args.at / 262144 < length c.self.inside.chunks.items =
    seat 262144 c.args.at (length c.args.out.now) c.self.inside.len c.self.inside.chunks.items c.args.self.now (omega arith) c.self.invariant c.self.view_is some c.requires.bytes in
    omega arith

pub returns : goal.returns
returns c =
    let some : 0 < length c.args.out.now = told-some _ _ c.is_empty.ensures c.if-is_empty.false in
    c.load.ensures
    ∙ read-part 262144 (c.args.at / 262144) c.args.at (length c.args.out.now) c.self.inside.len c.self.inside.chunks.items c.index.result.now c.args.self.now
    (omega arith) c.self.invariant c.self.view_is some c.requires.bytes c.requires.chunk refl c.index.ensures
