use Rattle.std.proofs.Common.{◌≡◌, ◌+◌, ◌*◌, ◌^◌, ℕ, [], ◌∷◌, ◌∙◌, ap, arith}
use Rattle.nv_entry.specs.Status.{bit}
use Rattle.nv_entry.specs.Layout.{bytes_of_dwords}
use Rattle.nv_entry.specs.Completion.{completion}
use Rattle.nv_entry.proofs.CompletionLemmas.{IsCompletion-completion}
use Rattle.nv_entry.proofs.cqe.Cqe.new.Goals as goal

pub returns-clause-bytes : goal.returns-clause-bytes
unfolding completion
returns-clause-bytes c =
    let queue : c.pair-queue.result ≡ c.args.sqhd + 2 ^ 16 * c.args.sqid = c.pair-queue.ensures in
    let command : c.pair-command.result ≡ c.args.cid + 2 ^ 16 * bit c.args.phase + 2 ^ 17 * c.args.status.sc + 2 ^ 25 * c.args.status.sct + 2 ^ 31 * bit c.args.status.dnr =
    omega (arith, c.pair-command.ensures, c.upper_half.ensures.value) in
    ap (λ (q : ℕ). bytes_of_dwords (c.args.dw0 ∷ 0 ∷ q ∷ c.pair-command.result ∷ [])) queue
    ∙ ap (λ (m : ℕ). bytes_of_dwords (c.args.dw0 ∷ 0 ∷ (c.args.sqhd + 2 ^ 16 * c.args.sqid) ∷ m ∷ [])) command

pub returns-clause-fields : goal.returns-clause-fields
returns-clause-fields c =
    let whole = returns-clause-bytes c in
    rw whole (
    IsCompletion-completion c.args.dw0 c.args.sqhd c.args.sqid c.args.cid c.args.phase c.args.status (omega arith) (omega arith) (omega arith) (omega arith)
    c.upper_half.ensures.type_fits c.upper_half.ensures.code_fits
    )
