use Rattle.std.proofs.Common.{length, eqb-true, sym}
use Rattle.nv_c.proofs.Views.{none-shown, row-inside, row-shown}
use Rattle.nv_c.proofs.showing.view.Goals as goal

pub returns-then-is_empty-clause-ok : goal.returns-then-is_empty-clause-ok
returns-then-is_empty-clause-ok c = none-shown c.args.mediator.now c.args.guest c.args.address (length c.args.room.now) c.in-Some.map.now c.in-Some.ensures (eqb-true (length c.args.room.now) 0 (sym c.if-is_empty.ensures))

pub bytes-requires-clause-bytes : goal.bytes-requires-clause-bytes
bytes-requires-clause-bytes c = λ _.
    row-inside c.args.mediator.now c.args.guest c.args.address (length c.args.room.now) c.in-Some-run.from c.in-Some-run.count c.in-Some.map.now c.host.result.now
    c.promise.ensures.accepted c.in-Some.ensures c.host_len-known.ensures.sound c.in-Some-run.ensures c.host.ensures.len

pub returns-clause-ok : goal.returns-clause-ok
returns-clause-ok c =
    let m = c.args.mediator.now in
    let room = length c.args.room.now in
    let run = c.in-Some-run in
    let inside = row-inside m c.args.guest c.args.address room run.from run.count c.in-Some.map.now c.host.result.now
    c.promise.ensures.accepted c.in-Some.ensures c.host_len-known.ensures.sound run.ensures c.host.ensures.len in
    row-shown m c.args.guest c.args.address room run.from run.count c.in-Some.map.now c.host.result.now c.bytes.result.now
    c.in-Some.ensures run.ensures inside c.host.ensures.bytes c.bytes.ensures
