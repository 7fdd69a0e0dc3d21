use Rattle.std.proofs.Common.{◌^◌, List, ap, subst, sym, ◌∙◌}
use Rattle.nv_mem.specs.Places.{Place, places_of}
use Rattle.nv_disk.specs.Buffer.{AreBelow}
use Rattle.nv_device.proofs.PagedLemmas.{below-behind}
use Rattle.nv_device.proofs.paged.buffer_behind.Goals as goal

pub skip-requires : goal.skip-requires
skip-requires c =
    let W : List Place → Type 0 = λ ps. AreBelow (2 ^ 64) ps in
    record { in_range = subst W (sym (c.of-buffer.ensures ∙ ap places_of c.split_at.ensures.back)) (below-behind (2 ^ 64) c.pieces_passed-passed.result.0 c.args.pieces.now c.requires.in_range) }
