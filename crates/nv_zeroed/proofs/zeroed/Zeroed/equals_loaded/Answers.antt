use Rattle.std.proofs.Common.{◌≡◌, ℕ, ◌+◌, ◌-◌, ◌≤◌, List, length, take, drop, arith, sym, ap, ◌∙◌, true≢false}
use Rattle.std.proofs.lemmas.List.{length-take-le}
use Rattle.nv_zeroed.specs.Chunks.{bytes_at}
use Rattle.nv_zeroed.proofs.Lists.{equal-more, equal-part, part-len, told-alike, told-unlike}
use Rattle.nv_zeroed.proofs.zeroed.Zeroed.equals_loaded.Goals as goal

-- the part of a turn has as many bytes as the room that it is loaded into
counted : (done count : ℕ) (bytes room : List ℕ) → done + count ≤ length bytes → count ≤ length room
    → length (take (length (take (done + count - done) (drop done bytes))) room) ≡ count
counted done count bytes room inside most =
    let part : length (take (done + count - done) (drop done bytes)) ≡ count = part-len done count bytes inside in
    length-take-le (length (take (done + count - done) (drop done bytes))) room (omega arith) ∙ part

pub returns-then-ne : goal.returns-then-ne
returns-then-ne c =
    let most = c.min.ensures in
    let so_far = c.loop-done.invariant.1 in
    let inside : c.loop-done.done + c.min.result ≤ length c.args.bytes.now = omega arith in
    let few : c.min.result ≤ length c.loop-done.room = omega arith in
    let all : c.loop-done.done + c.min.result - c.loop-done.done ≡ c.min.result = omega arith in (
      (λ wrong. absurd (true≢false (sym wrong))),
      λ same. absurd (told-unlike _ _ _ c.ne.ensures c.if-ne.true
          (c.load.ensures
          ∙ ap (λ (k : ℕ). bytes_at c.args.self.now (c.args.at + c.loop-done.done) k) (counted c.loop-done.done c.min.result c.args.bytes.now c.loop-done.room inside few)
          ∙ equal-part c.args.at (length c.args.bytes.now) c.loop-done.done c.min.result c.args.bytes.now c.args.self.now inside same
          ∙ ap (λ (k : ℕ). take k (drop c.loop-done.done c.args.bytes.now)) (sym all))),
    )

pub loop-done-preserved : goal.loop-done-preserved
loop-done-preserved c =
    let most = c.min.ensures in
    let so_far = c.loop-done.invariant.1 in
    let inside : c.loop-done.done + c.min.result ≤ length c.args.bytes.now = omega arith in
    let few : c.min.result ≤ length c.loop-done.room = omega arith in
    let all : c.loop-done.done + c.min.result - c.loop-done.done ≡ c.min.result = omega arith in
    let count : length (take (c.loop-done.done + c.min.result - c.loop-done.done) (drop c.loop-done.done c.args.bytes.now)) ≡ c.min.result =
    part-len c.loop-done.done c.min.result c.args.bytes.now inside in
    let more : bytes_at c.args.self.now (c.args.at + c.loop-done.done) c.min.result ≡ take c.min.result (drop c.loop-done.done c.args.bytes.now) =
    ap (λ (k : ℕ). bytes_at c.args.self.now (c.args.at + c.loop-done.done) k) (sym (counted c.loop-done.done c.min.result c.args.bytes.now c.loop-done.room inside few))
    ∙ sym c.load.ensures
    ∙ told-alike _ _ _ c.ne.ensures c.if-ne.false
    ∙ ap (λ (k : ℕ). take k (drop c.loop-done.done c.args.bytes.now)) all in
    let both : bytes_at c.args.self.now c.args.at (c.loop-done.done + c.min.result) ≡ take (c.loop-done.done + c.min.result) c.args.bytes.now =
    equal-more c.args.at c.loop-done.done c.min.result c.args.bytes.now c.args.self.now c.loop-done.invariant.0 more in (
      ap (λ (k : ℕ). bytes_at c.args.self.now c.args.at (c.loop-done.done + k)) count ∙ both ∙ ap (λ (k : ℕ). take (c.loop-done.done + k) c.args.bytes.now) (sym count),
      omega arith,
    )
