use Rattle.std.proofs.Common.{◌≡◌, ◌+◌, length, replicate, take, ap, sym, arith, rules, ◌∙◌}
use Rattle.std.proofs.lemmas.List.{length-replicate, replicate-append-replicate, take-replicate}
use Rattle.nv_mem.specs.Bytes.{after_store}
use Rattle.nv_disk.specs.Flat.{Flat, flat}
use Rattle.nv_commands.proofs.ShownLemmas.{after_store-append}
use Rattle.nv_commands.proofs.once.fill_by.Goals as goal

pub loop-done-preserved : goal.loop-done-preserved
loop-done-preserved g c =
    let old = g.C.One.seen c.args.controller.now in
    let before = g.C.One.seen c.loop-done.controller in
    let done = c.loop-done.done in
    let count = c.min-count.result in
    let byte = c.args.byte in
    let (room, stands, sizes) = c.loop-done.invariant in
    let part : take count c.args.chunk.now ≡ replicate count byte = ap (take count) c.requires.equal ∙ take-replicate count 512 byte (omega arith) in
    let stored : g.C.One.seen c.store.new.self ≡ flat (after_store before.memory (c.args.addr + done) (replicate count byte)) before.disk before.kept =
    c.store.ensures.bytes
    ∙ ap (λ bytes. flat (after_store before.memory (c.args.addr + done) bytes) before.disk before.kept) part
    in
    let behind : c.args.addr + length (replicate done byte) ≡ c.args.addr + done = ap (λ n. c.args.addr + n) (length-replicate done byte) in
    let whole : after_store (after_store old.memory c.args.addr (replicate done byte)) (c.args.addr + done) (replicate count byte)
    ≡ after_store old.memory c.args.addr (replicate (done + count) byte) =
    ap (λ at. after_store (after_store old.memory c.args.addr (replicate done byte)) at (replicate count byte)) (sym behind)
    ∙ after_store-append old.memory (replicate done byte) (replicate count byte) c.args.addr (simp length-replicate (omega arith))
    ∙ ap (after_store old.memory c.args.addr) (replicate-append-replicate done count byte)
    in
    let grown : g.C.One.seen c.store.new.self ≡ flat (after_store old.memory c.args.addr (replicate (done + count) byte)) old.disk old.kept =
    stored
    ∙ ap (λ (f : Flat). flat (after_store f.memory (c.args.addr + done) (replicate count byte)) f.disk f.kept) stands
    ∙ ap (λ memory. flat memory old.disk old.kept) whole
    in
    (omega arith, grown, search rules)
