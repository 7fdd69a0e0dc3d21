use Rattle.std.proofs.Common.{◌≡◌, ◌∙◌, ap, subst, ℕ}
use Rattle.std.specs.Prelude.{◌↔◌, IsTrue}
use Rattle.nv_laws_sound.proofs.LastDwords.{phase-alone}
use Rattle.nv_entry.specs.Completion.{phase_of}
use Rattle.nv_model.specs.Memory.{byte_in}
use Rattle.nv_core.proofs.reaping.phase_in.Goals as goal

pub returns : goal.returns
returns g c =
    subst (λ (n : ℕ). IsTrue c.phase.result ↔ (n ≡ 1))
    (ap phase_of c.of.ensures ∙ phase-alone (byte_in (g.C.MemoryCell.bytes c.args._host.now)) c.args._addr c.args.last c.requires) c.phase.ensures
