use Rattle.std.proofs.Common.{◌≡◌, ◌<◌, length, arith, sym}
use Rattle.std.specs.Vec.{vec_len}
use Rattle.nv_zeroed.proofs.Lists.{laid-some, resized, told-none, told-some}
use Rattle.nv_zeroed.proofs.chunk.lay.Goals as goal

pub returns-then-is_empty-clause-bytes : goal.returns-then-is_empty-clause-bytes
returns-then-is_empty-clause-bytes c =
    let none : vec_len c.args.bytes.now ≡ 0 = told-none _ _ c.is_empty.ensures c.if-is_empty.true in
    let empty : length c.args.bytes.now.items ≡ 0 = omega arith in
    resized 262144 _ _ c.args.bytes.now.items c.resize-laid.new.self.items empty none (c.resize-laid.ensures.succeeds c.requires.room) c.resize-laid.ensures.items

pub returns-else-is_empty-clause-bytes : goal.returns-else-is_empty-clause-bytes
returns-else-is_empty-clause-bytes c =
    let any : 0 < vec_len c.args.bytes.now = told-some _ _ c.is_empty.ensures c.if-is_empty.false in
    let some : 0 < length c.args.bytes.now.items = omega arith in
    sym (laid-some 262144 c.args.bytes.now.items some)
