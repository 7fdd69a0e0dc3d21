use Rattle.std.proofs.Common.{◌+◌, ◌<◌, ◌≤◌, ◌^◌, arith}
use Rattle.nv_sgl.proofs.Maps.{AllMapped-end}
use Rattle.nv_sgl.proofs.cursor.holds_some.Goals as goal

pub returns-clause-inside : goal.returns-clause-inside
returns-clause-inside c is =
    let some : 0 < c.from.result = omega arith in
    let end : c.args.addr + c.from.result ≤ 2 ^ 64 =
    AllMapped-end c.args.map.now c.args.addr c.from.result c.host_len-known.ensures.sound (c.holds.ensures.all_mapped.0 is) some in
    omega arith
