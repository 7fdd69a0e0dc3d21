use Rattle.std.proofs.Common.{ℕ, ◌+◌, ◌-◌, ◌%◌, ◌≤◌, List, length, take, drop, arith, ap, ◌∙◌}
use Rattle.nv_zeroed.specs.Chunks.{after_store}
use Rattle.nv_zeroed.proofs.Lists.{store-in-two}
use Rattle.nv_zeroed.proofs.zeroed.Zeroed.+store.Goals as goal

pub returns-else-bytes-room : goal.returns-else-bytes-room
returns-else-bytes-room m c =
    let some = c.if-bytes-room.false in
    let fits : 262144 - c.args.at % 262144 ≤ length c.args.bytes.now = omega arith in
    c.store.ensures
    ∙ ap (λ (xs : List ℕ). after_store xs (c.args.at + (262144 - c.args.at % 262144))
    (take (length c.args.bytes.now - (262144 - c.args.at % 262144)) (drop (262144 - c.args.at % 262144) c.args.bytes.now))) c.store_part-else-bytes-room.ensures
    ∙ store-in-two c.args.at (262144 - c.args.at % 262144) c.args.bytes.now c.args.self.now fits c.requires
