use Rattle.std.proofs.Common.{◌≡◌, ℕ, ◌+◌, ◌-◌, ◌%◌, List, ◌++◌, length, ap, ◌∙◌}
use Rattle.nv_zeroed.specs.Chunks.{bytes_at}
use Rattle.std.proofs.lemmas.List.{length-append}
use Rattle.nv_zeroed.proofs.Lists.{read-in-two}
use Rattle.nv_zeroed.proofs.zeroed.Zeroed.+load.Goals as goal

pub returns-else-out-room : goal.returns-else-out-room
returns-else-out-room m c =
    let all : length c.args.out.now ≡ length c.split_at_mut-part.result.0.now + length c.split_at_mut-part.result.1.now =
    ap (λ (xs : List ℕ). length xs) c.split_at_mut-part.ensures.value ∙ length-append c.split_at_mut-part.result.0.now c.split_at_mut-part.result.1.now in
    ap (λ (xs : List ℕ). xs ++ c.load.new.out) c.load_part-else-out-room.ensures
    ∙ ap (λ (xs : List ℕ). bytes_at c.args.self.now c.args.at (length c.split_at_mut-part.result.0.now) ++ xs) c.load.ensures
    ∙ read-in-two c.args.at (262144 - c.args.at % 262144) (length c.split_at_mut-part.result.0.now) (length c.split_at_mut-part.result.1.now) (length c.args.out.now)
    c.args.self.now c.split_at_mut-part.ensures.front_len all
