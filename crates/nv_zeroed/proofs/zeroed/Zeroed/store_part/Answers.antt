use Rattle.std.proofs.Common.{◌/◌, ◌%◌, ◌<◌, length, arith, refl}
use Rattle.nv_zeroed.proofs.Lists.{seat, set-part, set-whole, told-some}
use Rattle.nv_zeroed.proofs.zeroed.Zeroed.store_part.Goals as goal

pub index_mut-requires : goal.index_mut-requires
index_mut-requires c =
    let some : 0 < length c.args.bytes.now = told-some _ _ c.is_empty.ensures c.if-is_empty.false in
    let below : c.args.at / 262144 < length c.self.inside.chunks.items =
    seat 262144 c.args.at (length c.args.bytes.now) c.self.inside.len c.self.inside.chunks.items c.args.self.now (omega arith) c.self.invariant c.self.view_is some c.requires.bytes in
    omega arith

pub invariant_of-self : goal.invariant_of-self
invariant_of-self c =
    let some : 0 < length c.args.bytes.now = told-some _ _ c.is_empty.ensures c.if-is_empty.false in
    set-whole 262144 (c.args.at / 262144) (c.args.at % 262144) c.self.inside.len c.args.bytes.now c.self.inside.chunks.items c.index_mut.result.now c.store.new.self
    c.self.invariant
    (seat 262144 c.args.at (length c.args.bytes.now) c.self.inside.len c.self.inside.chunks.items c.args.self.now (omega arith) c.self.invariant c.self.view_is some c.requires.bytes)
    c.requires.chunk c.index_mut.ensures.value c.store.ensures

pub returns : goal.returns
returns c =
    let some : 0 < length c.args.bytes.now = told-some _ _ c.is_empty.ensures c.if-is_empty.false in
    set-part 262144 (c.args.at / 262144) c.args.at c.self.inside.len c.args.bytes.now c.self.inside.chunks.items c.index_mut.result.now c.store.new.self c.args.self.now
    (omega arith) c.self.invariant c.self.view_is some c.requires.bytes c.requires.chunk refl c.index_mut.ensures.value c.store.ensures
