use Rattle.std.proofs.Common.{◌∙◌, ap, arith, sym, ℕ, List}
use Rattle.nv_model.proofs.MemoryLemmas.{bytes_from-list}
use Rattle.nv_model.specs.Memory.{byte_in, bytes_from}
use Rattle.nv_model.specs.Queue.{cqe_size}
use Rattle.nv_host.proofs.host_mediator.HostMediator.next_entry.Goals as goal

pub returns : goal.returns
unfolding byte_in
returns g c = λ l found.
    let inside = c.next_slot.ensures.inside in
    let lent = c.requires.lent in
    let memory : List ℕ = g.C.MemoryCell.bytes c.args.memory.now in
    c.of.ensures ∙ c.load.ensures ∙ sym (bytes_from-list memory c.next_slot.result 16 (omega (arith, inside, lent)))
    ∙ ap (λ (a : ℕ). bytes_from (byte_in memory) a cqe_size) (c.next_slot.ensures.value l found)
