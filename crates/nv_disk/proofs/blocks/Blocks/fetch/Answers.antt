use Rattle.std.proofs.Common.{ℕ, List, ◌≡◌, length, set, take, drop, refl, ap, ◌∙◌, arith}
use Rattle.std.specs.Vec.{vec_capacity}
use Rattle.std.proofs.lemmas.List.{length-take-le}
use Rattle.nv_model.specs.Memory.{byte_in, gathered}
use Rattle.nv_model.proofs.MemoryLemmas.{length-gathered}
use Rattle.nv_disk.proofs.StoredLemmas.{length-blocks, written-kept, written-shown}
use Rattle.nv_disk.proofs.blocks.Blocks.fetch.Goals as goal

pub settle-place-requires-clause-block : goal.settle-place-requires-clause-block
settle-place-requires-clause-block c =
    let same = length-blocks c.self.inside.stored.items c.self.inside.entries.items in
    let seen = ap (λ (bs : List (List ℕ)). length bs) c.self.view_is in
    omega arith

pub invariant_of-self : goal.invariant_of-self
invariant_of-self c =
    let sized : length c.index_mut.result.now ≡ 512 =
    ap (λ (xs : List ℕ). length xs) c.index_mut.ensures.value ∙ c.settle-place.ensures.stored.sized c.settle-place.result c.index_mut.result.now c.settle-place.ensures.there in
    let enough = c.requires.enough in
    let out : length c.fetch.new.out ≡ 512 =
    ap (λ (xs : List ℕ). length xs) c.fetch.ensures.bytes
    ∙ length-gathered (byte_in c.args.memory.now) (take (length c.index_mut.result.now) c.args.buffer.now)
    ∙ length-take-le (length c.index_mut.result.now) c.args.buffer.now (omega arith) ∙ sized in
    written-kept (vec_capacity c.settle-place.new.stored) (vec_capacity c.settle-place.new.stored) c.settle-place.new.entries.items c.show.new.entries.items
    c.settle-place.new.stored.items (set c.settle-place.new.stored.items c.settle-place.result c.fetch.new.out) c.args.block c.settle-place.result c.fetch.new.out
    c.settle-place.ensures.stored out c.settle-place.ensures.place refl refl c.show.ensures

pub returns-clause-bytes : goal.returns-clause-bytes
returns-clause-bytes c =
    let sized : length c.index_mut.result.now ≡ 512 =
    ap (λ (xs : List ℕ). length xs) c.index_mut.ensures.value ∙ c.settle-place.ensures.stored.sized c.settle-place.result c.index_mut.result.now c.settle-place.ensures.there in
    written-shown (vec_capacity c.settle-place.new.stored) c.settle-place.new.entries.items c.show.new.entries.items
    c.settle-place.new.stored.items (set c.settle-place.new.stored.items c.settle-place.result c.fetch.new.out) c.args.block c.settle-place.result c.fetch.new.out
    c.settle-place.ensures.stored c.settle-place.ensures.block c.settle-place.ensures.place c.settle-place.ensures.there refl c.show.ensures
    ∙ ap (λ (bs : List (List ℕ)). set bs c.args.block c.fetch.new.out) (c.settle-place.ensures.same ∙ c.self.view_is)
    ∙ ap (λ (b : List ℕ). set c.args.self.now c.args.block b) (c.fetch.ensures.bytes ∙ ap (λ (n : ℕ). gathered (byte_in c.args.memory.now) (take n c.args.buffer.now)) sized)

pub returns-clause-rest : goal.returns-clause-rest
returns-clause-rest c =
    let sized : length c.index_mut.result.now ≡ 512 =
    ap (λ (xs : List ℕ). length xs) c.index_mut.ensures.value ∙ c.settle-place.ensures.stored.sized c.settle-place.result c.index_mut.result.now c.settle-place.ensures.there in
    c.fetch.ensures.rest ∙ ap (λ (n : ℕ). drop n c.args.buffer.now) sized
