use Rattle.std.proofs.Common.{◌≡◌, ℕ, List, ap, subst, ◌∙◌}
use Rattle.nv_mem.specs.Bytes.{bytes_at}
use Rattle.nv_model.specs.Transcript.{fed}
use Rattle.nv_prp.specs.Parse.{dialogue_of}
use Rattle.nv_disk.proofs.BufferLemmas.{bytes_at-from}
use Rattle.nv_flat.proofs.lists.feed_prp.Goals as goal

pub returns : goal.returns
returns c =
    let P : List ℕ → Type 0 = λ bytes. dialogue_of c.feed.new.self ≡ fed (dialogue_of c.args.parse.now) bytes in
    subst P (c.bytes-part.ensures ∙ ap (bytes_at c.args.memory.now c.args.addr) c.from.ensures ∙ bytes_at-from c.args.memory.now c.args.addr c.args.len c.requires.there.inside)
    c.feed.ensures.dialogue
