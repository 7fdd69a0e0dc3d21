use Rattle.std.proofs.Common.{ℕ, ◌+◌, ◌-◌, ◌≤◌, List, arith, ap, ◌∙◌}
use Rattle.nv_zeroed.specs.Chunks.{after_store, bytes_at}
use Rattle.nv_zeroed.proofs.Lists.{copy-in-two}
use Rattle.nv_zeroed.proofs.zeroed.Zeroed.+copy.Goals as goal

pub returns-else-len-room : goal.returns-else-len-room
returns-else-len-room m c =
    let some = c.if-len-room.false in
    let fits : c.min-room.result ≤ c.args.len = omega arith in
    c.copy.ensures
    ∙ ap (λ (xs : List ℕ). after_store xs (c.args.to + c.min-room.result) (bytes_at xs (c.args.from + c.min-room.result) (c.args.len - c.min-room.result)))
    c.copy_part-else-len-room.ensures
    ∙ copy-in-two c.args.from c.args.to c.min-room.result c.args.len c.args.self.now fits c.requires.from c.requires.to c.requires.apart
