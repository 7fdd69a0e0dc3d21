use Rattle.std.proofs.Common.{◌∙◌, ap, arith}
use Rattle.nv_mem.specs.MapRefusal.{refusal_of}
use Rattle.nv_flat.proofs.FlatLemmas.{refusal_of-identity}
use Rattle.nv_flat.proofs.controller.identity.Goals as goal

pub unreachable-requires : goal.unreachable-requires
unreachable-requires c =
    let accepted = refusal_of-identity c.args.len c.requires.pages c.requires.some (omega arith) in
    let items = c.in_ok-vec.ensures.items in
    let refused = c.in-Err.ensures.refusal in
    let bad = refused ∙ ap (refusal_of c.args.len) items ∙ accepted in
    (cc)
