use Rattle.std.proofs.Common.{◌/◌, ◌%◌, ◌<◌, length, arith, refl, ◌∙◌}
use Rattle.nv_zeroed.proofs.Lists.{found, read-part, seat}
use Rattle.nv_zeroed.proofs.zeroed.Zeroed.lent.Goals as goal

pub index-requires : goal.index-requires
index-requires c =
    let any = c.if-len-eq0.false in
    let some : 0 < c.args.len = omega (arith, any) in
    let below : c.args.at / 262144 < length c.self.inside.chunks.items =
    seat 262144 c.args.at c.args.len c.self.inside.len c.self.inside.chunks.items c.args.self.now (omega arith) c.self.invariant c.self.view_is some c.requires in
    omega arith

pub returns : goal.returns
returns c =
    let any = c.if-len-eq0.false in
    let some : 0 < c.args.len = omega (arith, any) in
    let most = c.if-at-len.false in
    let small : c.args.at % 262144 < 262144 = omega arith in
    found _ _ _ c.bytes.result (λ b there.
    there
    ∙ read-part 262144 (c.args.at / 262144) c.args.at c.args.len c.self.inside.len c.self.inside.chunks.items c.index.result.now c.args.self.now
    (omega arith) c.self.invariant c.self.view_is some c.requires (omega arith) refl c.index.ensures) c.bytes.ensures
