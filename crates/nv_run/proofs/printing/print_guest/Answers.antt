use Rattle.std.proofs.Common.{◌≡◌, ◌<◌, length, get_or, take, ap, ◌∙◌, sym, refl, arith, rules}
use Rattle.nv_print.proofs.Growing.{Appends-nothing, Appends-then}
use Rattle.nv_run.specs.Shown.{behind, guest_lines, line_of}
use Rattle.nv_run.proofs.Printings.{behind_all, behind_all-more, guest_lines-all, guest_lines-more}
use Rattle.nv_run.proofs.printing.print_guest.Goals as goal

pub loop-line-init : goal.loop-line-init
unfolding guest_lines behind_all
loop-line-init g c = (Appends-nothing _, refl)

pub loop-line-preserved : goal.loop-line-preserved
loop-line-preserved g c =
    let lines = c.args.lines.now in
    let calls = c.args.calls.now in
    let index = c.loop-line.line-index in
    let item = c.line-item.result in
    let at : item ≡ get_or lines index item = first_of (cc, search rules) in
    let below : index < length lines = first_of (omega arith, search rules) in
    let invariant = c.loop-line.invariant in (
      rw (guest_lines-more c.args.guest lines index item calls below at, sym invariant.1)
          (Appends-then _ _ _ (guest_lines c.args.guest (take index lines) calls) (line_of c.args.guest item.task c.loop-line.left.now) invariant.0 c.in_ok-print_line.ensures),
      c.behind-left.ensures ∙ ap (behind item.task) invariant.1 ∙ sym (behind_all-more lines index item calls below at),
    )

pub returns : goal.returns
returns g c = rw (sym (guest_lines-all c.args.guest c.args.lines.now c.loop-line.line-index c.args.calls.now (first_of (omega arith, search rules)))) c.loop-line.invariant.0
