use Rattle.std.proofs.Common.{ℕ, List, ◌≡◌, ◌+◌, ◌*◌, ◌/◌, length, replicate, set, sym, subst, ap, ◌∙◌, arith}
use Rattle.std.specs.List.{slice_index_or}
use Rattle.std.specs.Vec.{vec_capacity}
use Rattle.nv_disk.specs.Stored.{IsStored, blocks_of, places_of}
use Rattle.nv_disk.proofs.StoredLemmas.{blocks-cleared, length-blocks, places-same}
use Rattle.nv_disk.proofs.blocks.Blocks.clear.Goals as goal

pub blank-requires : goal.blank-requires
blank-requires c =
    let same = length-blocks c.self.inside.stored.items c.self.inside.entries.items in
    let seen = ap (λ (bs : List (List ℕ)). length bs) c.self.view_is in
    omega arith

pub invariant_of-self : goal.invariant_of-self
invariant_of-self c =
    let half : (2 * (slice_index_or c.self.inside.entries.items c.args.block 0 / 2) + 1) / 2 ≡ slice_index_or c.self.inside.entries.items c.args.block 0 / 2 = omega arith in
    let W : List ℕ → Type 0 = λ places. IsStored (vec_capacity c.self.inside.stored) places c.self.inside.stored.items in
    subst W
    (sym (ap places_of c.blank.ensures ∙ places-same c.self.inside.entries.items c.args.block (2 * (slice_index_or c.self.inside.entries.items c.args.block 0 / 2) + 1) half))
    c.self.invariant

pub returns : goal.returns
returns c =
    ap (blocks_of c.self.inside.stored.items) c.blank.ensures
    ∙ blocks-cleared c.self.inside.stored.items c.self.inside.entries.items c.args.block (slice_index_or c.self.inside.entries.items c.args.block 0 / 2)
    ∙ ap (λ (bs : List (List ℕ)). set bs c.args.block (replicate 512 0)) c.self.view_is
