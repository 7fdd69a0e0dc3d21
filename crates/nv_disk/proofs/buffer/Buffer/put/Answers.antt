use Rattle.std.proofs.Common.{◌≡◌, ◌^◌, length, drop, arith, ap, sym, ◌∙◌}
use Rattle.std.proofs.lemmas.Bool.Decides.{nat_tests}
use Rattle.nv_model.specs.Memory.{byte_in}
use Rattle.nv_disk.proofs.BufferLemmas.{AreBelow-more, IsFront-below, IsPutting-more, drop-nil, scattered-no_bytes, scattered-no_places}
use Rattle.nv_disk.proofs.buffer.Buffer.put.Goals as goal

pub take_front-requires-clause-in_range : goal.take_front-requires-clause-in_range
take_front-requires-clause-in_range c =
    let size = c.loop-rest.invariant.size in
    AreBelow-more (length c.loop-rest.memory) (2 ^ 64) c.loop-rest.self (omega arith) c.loop-rest.invariant.below

pub returns-in_default-clause-memory : goal.returns-in_default-clause-memory
returns-in_default-clause-memory c =
    sym (scattered-no_places (byte_in c.loop-rest.memory) c.loop-rest.self c.loop-rest.rest.now c.in_default.ensures.0)
    ∙ c.loop-rest.invariant.moved

pub returns-in_default-clause-rest : goal.returns-in_default-clause-rest
returns-in_default-clause-rest c =
    c.in_default.ensures.1 ∙ sym (drop-nil (length c.loop-rest.rest.now))
    ∙ ap (drop (length c.loop-rest.rest.now)) (sym c.in_default.ensures.0) ∙ c.loop-rest.invariant.left

pub store-requires-clause-in_memory : goal.store-requires-clause-in_memory
store-requires-clause-in_memory c =
    IsFront-below (length c.loop-rest.memory) c.loop-rest.self c.take_front.new.self _ c.in-Some.piece c.in-Some.ensures c.loop-rest.invariant.below

pub loop-rest-preserved : goal.loop-rest-preserved
loop-rest-preserved c =
    IsPutting-more c.args.memory.now c.args.self.now c.args.bytes.now c.loop-rest.memory c.loop-rest.self c.loop-rest.rest.now
    c.in-Some.piece c.take_front.new.self c.store.new.memory c.split_at.result.0.now c.split_at.result.1.now
    c.loop-rest.invariant c.in-Some.ensures (rw c.len_of.ensures at c.split_at.ensures.front) (rw c.len_of.ensures at c.split_at.ensures.back)
    (rw c.len_of.ensures at c.split_at.ensures.back_len) c.store.ensures.memory c.store.ensures.size

pub returns-clause-memory : goal.returns-clause-memory
returns-clause-memory c =
    let none : length c.loop-rest.rest.now ≡ 0 = (let test = c.is_empty.ensures in let is = c.loop-rest-test.false in grind (arith, nat_tests)) in
    sym (scattered-no_bytes (byte_in c.loop-rest.memory) c.loop-rest.self c.loop-rest.rest.now none)
    ∙ c.loop-rest.invariant.moved
