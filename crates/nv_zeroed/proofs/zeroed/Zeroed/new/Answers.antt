use Rattle.std.proofs.Common.{◌≡◌, ℕ, ◌+◌, ◌*◌, ◌/◌, ◌%◌, ◌≤◌, List, min, replicate, arith, sym, ap, subst, ◌∙◌}
use Rattle.nv_zeroed.specs.Chunks.{memory_of}
use Rattle.nv_zeroed.proofs.Lists.{memory-new, memory-zeros, one-more}
use Rattle.nv_zeroed.specs.Chunks.{IsMemory}
use Rattle.std.proofs.lemmas.Grind.{div_ceil_times}
use Rattle.nv_zeroed.proofs.zeroed.Zeroed.new.Goals as goal

pub loop-preserved : goal.loop-preserved
loop-preserved c =
    one-more c.loop.counter c.in_ok-new.field-0 (replicate 262144 0) c.loop.chunks.items c.push.new.self.items c.loop.invariant c.in_ok-new.ensures c.in_ok-push.ensures.items

pub invariant_of-result : goal.invariant_of-result
invariant_of-result c =
    let told : c.div_ceil-count.result ≡ c.args.len / 262144 + min 1 (c.args.len % 262144) = c.div_ceil-count.ensures in
    let times = (div_ceil_times c.args.len 262144 (omega arith)).0 in
    let ended = c.loop-test.false in
    let enough : c.args.len ≤ 262144 * c.loop.counter = omega arith in
    subst (λ (xs : List (List ℕ)). IsMemory 262144 c.args.len xs) (sym c.loop.invariant) (memory-new 262144 c.args.len c.loop.counter enough)

pub returns : goal.returns
returns c =
    let told : c.div_ceil-count.result ≡ c.args.len / 262144 + min 1 (c.args.len % 262144) = c.div_ceil-count.ensures in
    let times = (div_ceil_times c.args.len 262144 (omega arith)).0 in
    let ended = c.loop-test.false in
    let enough : c.args.len ≤ 262144 * c.loop.counter = omega arith in
    ap (λ (xs : List (List ℕ)). memory_of c.args.len xs) c.loop.invariant ∙ memory-zeros 262144 c.args.len c.loop.counter enough
