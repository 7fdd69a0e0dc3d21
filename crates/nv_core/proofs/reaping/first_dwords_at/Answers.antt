use Rattle.std.proofs.Common.{◌∙◌, sym, lit<, arith}
use Rattle.nv_model.proofs.MemoryLemmas.{bytes_from-list}
use Rattle.nv_model.specs.Memory.{byte_in}
use Rattle.nv_core.proofs.reaping.first_dwords_at.Goals as goal

pub returns : goal.returns
unfolding byte_in
returns g c =
    let there = c.requires (lit< tt) in
    c.load.ensures ∙ sym (bytes_from-list (g.C.MemoryCell.bytes c.args.host.now) c.args.addr 12 (omega (arith, there)))
