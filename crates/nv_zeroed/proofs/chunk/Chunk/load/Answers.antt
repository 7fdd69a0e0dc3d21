use Rattle.std.proofs.Common.{◌≡◌, ℕ, ◌+◌, ◌-◌, ◌<◌, List, length, take, drop, arith, sym, ap, ◌∙◌}
use Rattle.std.specs.Vec.{vec_len}
use Rattle.nv_zeroed.specs.Chunks.{bytes_at}
use Rattle.nv_zeroed.proofs.Lists.{laid-none, laid-some, told-none, told-some, zeros-part}
use Rattle.nv_zeroed.proofs.chunk.Chunk.load.Goals as goal

pub returns-then-is_empty : goal.returns-then-is_empty
returns-then-is_empty c =
    let none : vec_len c.self.inside.bytes ≡ 0 = told-none _ _ c.is_empty.ensures c.if-is_empty.true in
    let empty : length c.self.inside.bytes.items ≡ 0 = omega arith in
    c.fill.ensures.after (λ y same. same)
    ∙ sym (zeros-part 262144 c.args.at (length c.args.out.now) c.requires)
    ∙ ap (λ (xs : List ℕ). bytes_at xs c.args.at (length c.args.out.now)) (sym (laid-none 262144 c.self.inside.bytes.items empty) ∙ c.self.view_is)

pub returns-else-is_empty : goal.returns-else-is_empty
returns-else-is_empty c =
    let any : 0 < vec_len c.self.inside.bytes = told-some _ _ c.is_empty.ensures c.if-is_empty.false in
    let some : 0 < length c.self.inside.bytes.items = omega arith in
    let shown : c.deref.result.now ≡ c.args.self.now = c.deref.ensures.value ∙ sym (laid-some 262144 c.self.inside.bytes.items some) ∙ c.self.view_is in
    let size : c.args.at + length c.args.out.now - c.args.at ≡ length c.args.out.now = omega arith in
    c.copy_from_slice.ensures.after
    ∙ ap (λ (n : ℕ). take n (drop c.args.at c.deref.result.now)) size
    ∙ ap (λ (xs : List ℕ). bytes_at xs c.args.at (length c.args.out.now)) shown
