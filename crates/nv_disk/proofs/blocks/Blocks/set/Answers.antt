use Rattle.std.proofs.Common.{ℕ, List, length, set, ap, ◌∙◌, arith}
use Rattle.std.specs.Vec.{vec_capacity}
use Rattle.nv_disk.proofs.StoredLemmas.{length-blocks, written-kept, written-shown}
use Rattle.nv_disk.proofs.blocks.Blocks.set.Goals as goal

pub settle-place-requires-clause-block : goal.settle-place-requires-clause-block
settle-place-requires-clause-block c =
    let same = length-blocks c.self.inside.stored.items c.self.inside.entries.items in
    let seen = ap (λ (bs : List (List ℕ)). length bs) c.self.view_is in
    omega arith

pub invariant_of-self : goal.invariant_of-self
invariant_of-self c =
    written-kept (vec_capacity c.settle-place.new.stored) (vec_capacity c.put.new.stored) c.settle-place.new.entries.items c.show.new.entries.items
    c.settle-place.new.stored.items c.put.new.stored.items c.args.block c.settle-place.result c.args.bytes.now
    c.settle-place.ensures.stored c.told-bytes c.settle-place.ensures.place c.put.ensures.bytes c.put.ensures.room c.show.ensures

pub returns : goal.returns
returns c =
    written-shown (vec_capacity c.settle-place.new.stored) c.settle-place.new.entries.items c.show.new.entries.items
    c.settle-place.new.stored.items c.put.new.stored.items c.args.block c.settle-place.result c.args.bytes.now
    c.settle-place.ensures.stored c.settle-place.ensures.block c.settle-place.ensures.place c.settle-place.ensures.there c.put.ensures.bytes c.show.ensures
    ∙ ap (λ (bs : List (List ℕ)). set bs c.args.block c.args.bytes.now) (c.settle-place.ensures.same ∙ c.self.view_is)
