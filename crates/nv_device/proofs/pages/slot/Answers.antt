use Rattle.std.proofs.Common.{ℕ, List, ap, ◌∙◌}
use Rattle.nv_entry.specs.Layout.{number_at}
use Rattle.nv_disk.proofs.BufferLemmas.{bytes_at-from}
use Rattle.nv_device.proofs.pages.slot.Goals as goal

pub returns : goal.returns
unfolding number_at
returns c =
    c.read_u64.ensures
    ∙ ap (λ (bytes : List ℕ). number_at bytes 0 8) (c.load.ensures ∙ bytes_at-from c.args.host.now c.args.at 8 c.requires)
