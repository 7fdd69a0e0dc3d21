use Rattle.std.proofs.Common.{◌≡◌, ℕ, List, IfOk, ap, subst, ◌∙◌}
use Rattle.nv_mem.specs.Bytes.{bytes_at}
use Rattle.nv_model.specs.Transcript.{fed}
use Rattle.nv_sgl.specs.Parse.{reading_of}
use Rattle.nv_disk.proofs.BufferLemmas.{bytes_at-from}
use Rattle.nv_flat.proofs.lists.feed_sgl.Goals as goal

pub returns : goal.returns
returns c =
    let P : List ℕ → Type 0 = λ bytes. IfOk c.fed.result (λ more. reading_of more ≡ fed (reading_of c.args.parse) bytes) in
    subst P (c.bytes.ensures ∙ ap (bytes_at c.args.memory.now c.args.addr) c.from.ensures ∙ bytes_at-from c.args.memory.now c.args.addr c.args.len c.requires.there.inside)
    c.fed.ensures
