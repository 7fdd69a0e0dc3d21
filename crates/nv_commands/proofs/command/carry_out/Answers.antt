use Rattle.std.proofs.Common.{◌≡◌, subst}
use Rattle.std.specs.Io.KnownBytes.{append_known}
use Rattle.nv_commands.specs.Job.{PrintsJob}
use Rattle.nv_commands.proofs.JobLemmas.{PrintsJob-kept}
use Rattle.nv_print.proofs.Growing.{Keeps-then, append_known-nothing}
use Rattle.nv_commands.proofs.command.carry_out.Goals as goal

pub returns-clause-ok : goal.returns-clause-ok
returns-clause-ok g c =
    let held = append_known (g.W.Write.contents c.print.new.output.inner) c.print.new.output.buf.items in
    let empty : append_known (g.W.Write.contents c.in-Ok.buffer.inner) c.in-Ok.buffer.buf.items ≡ g.W.Write.contents c.args.output =
    rw (c.in-Ok.ensures.inner, c.in-Ok.ensures.empty) (append_known-nothing (g.W.Write.contents c.args.output)) in
    let printed = subst (λ before. PrintsJob g.C.One.built c.args.job before held) empty c.in_ok-print.ensures.ok in
    let kept = Keeps-then held (g.W.Write.contents c.in-Ok-into_inner.written) (g.W.Write.contents c.flush.new.self) c.in-Ok-into_inner.ensures.ok c.flush.ensures.bytes in
    PrintsJob-kept g.C.One.built c.args.job (g.W.Write.contents c.args.output) held (g.W.Write.contents c.flush.new.self) printed kept
