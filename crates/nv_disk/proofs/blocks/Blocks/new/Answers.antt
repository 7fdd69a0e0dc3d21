use Rattle.std.proofs.Common.{ℕ, List, replicate, subst, sym, ap, ◌∙◌}
use Rattle.std.specs.Vec.{vec_capacity}
use Rattle.nv_disk.specs.Stored.{IsStored, blocks_of, places_of}
use Rattle.nv_disk.proofs.StoredLemmas.{blocks-none, places-none, stored-none}
use Rattle.nv_disk.proofs.blocks.Blocks.new.Goals as goal

pub invariant_of-result : goal.invariant_of-result
invariant_of-result c =
    let W : List ℕ → Type 0 = λ places. IsStored (vec_capacity c.in_ok-stored.stored) places c.in_ok-stored.stored.items in
    let X : List (List ℕ) → Type 0 = λ stored. IsStored (vec_capacity c.in_ok-stored.stored) (replicate c.args.count 0) stored in
    subst W (sym (ap places_of c.in_ok-entries.ensures ∙ places-none c.args.count))
    (subst X (sym c.in_ok-stored.ensures.items) (stored-none (vec_capacity c.in_ok-stored.stored) c.args.count c.in_ok-stored.ensures.capacity c.requires))

pub returns : goal.returns
returns c =
    ap (blocks_of c.in_ok-stored.stored.items) c.in_ok-entries.ensures
    ∙ blocks-none c.in_ok-stored.stored.items c.args.count
