use Rattle.std.proofs.Common.{◌≡◌, ◌+◌, ◌++◌, ap, arith, rules, ◌∙◌}
use Rattle.std.specs.Io.KnownBytes.{Appends}
use Rattle.hex.specs.Hex.{encode_lower, encode_with, lower_digits}
use Rattle.nv_mem.specs.Bytes.{bytes_at}
use Rattle.nv_print.proofs.Growing.{Appends-nothing, Appends-then, encode_with-append}
use Rattle.nv_commands.proofs.ShownLemmas.{bytes_at-append}
use Rattle.nv_commands.proofs.once.dump_bytes.Goals as goal

pub loop-done-init : goal.loop-done-init
unfolding encode_with
loop-done-init g c = (omega arith, Appends-nothing _)

pub loop-done-preserved : goal.loop-done-preserved
loop-done-preserved g c =
    let memory = (g.C.One.seen c.args.controller.now).memory in
    let before = encode_lower (bytes_at memory c.args.addr c.loop-done.done) in
    let chunk = encode_lower (bytes_at memory (c.args.addr + c.loop-done.done) c.min-count.result) in
    let whole : encode_lower (bytes_at memory c.args.addr (c.loop-done.done + c.min-count.result)) ≡ before ++ chunk =
    ap encode_lower (bytes_at-append memory c.args.addr c.loop-done.done c.min-count.result)
    ∙ encode_with-append lower_digits _ _
    in
    let more : Appends _ (g.W.Write.contents c.print_bytes.new.output) chunk = search rules in
    (omega arith, rw whole (Appends-then _ _ _ before chunk c.loop-done.invariant.1 more))
