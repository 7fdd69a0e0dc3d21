use Rattle.std.proofs.Common.{◌≡◌, ℕ, ◌+◌, ◌-◌, ◌<◌, List, length, take, drop, arith, sym, ap, ◌∙◌}
use Rattle.std.specs.Vec.{vec_len}
use Rattle.nv_zeroed.specs.Chunks.{bytes_at}
use Rattle.nv_zeroed.proofs.Lists.{laid-none, laid-some, told-none, told-some}
use Rattle.nv_zeroed.proofs.chunk.Chunk.bytes.Goals as goal

pub returns-then-is_empty : goal.returns-then-is_empty
returns-then-is_empty c =
    let none : vec_len c.self.inside.bytes ≡ 0 = told-none _ _ c.is_empty.ensures c.if-is_empty.true in
    let empty : length c.self.inside.bytes.items ≡ 0 = omega arith in
    sym c.self.view_is ∙ laid-none 262144 c.self.inside.bytes.items empty

pub returns : goal.returns
returns c =
    let any : 0 < vec_len c.self.inside.bytes = told-some _ _ c.is_empty.ensures c.if-is_empty.false in
    let some : 0 < length c.self.inside.bytes.items = omega arith in
    let shown : c.deref.result.now ≡ c.args.self.now = c.deref.ensures.value ∙ sym (laid-some 262144 c.self.inside.bytes.items some) ∙ c.self.view_is in
    let size : c.args.at + c.args.len - c.args.at ≡ c.args.len = omega arith in
    ap (λ (n : ℕ). take n (drop c.args.at c.deref.result.now)) size ∙ ap (λ (xs : List ℕ). bytes_at xs c.args.at c.args.len) shown
