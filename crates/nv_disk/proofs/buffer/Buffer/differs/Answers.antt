use Rattle.std.proofs.Common.{◌||◌, Bool, length, ap, sym, ◌∙◌, arith}
use Rattle.std.proofs.lemmas.Bool.Decides.{nat_tests}
use Rattle.nv_mem.specs.Places.{places_of_piece}
use Rattle.nv_model.specs.Memory.{byte_in, gathered}
use Rattle.nv_model.specs.Private.{differs}
use Rattle.nv_disk.proofs.CompareLemmas.{IsComparing-end, IsComparing-more}
use Rattle.nv_disk.proofs.buffer.Buffer.differs.Goals as goal

pub loop-rest-preserved-then-differed : goal.loop-rest-preserved-then-differed
loop-rest-preserved-then-differed c =
    IsComparing-more (length c.args.memory.now) (byte_in c.args.memory.now) c.args.self.now c.args.bytes.now c.loop-rest.self c.loop-rest.rest.now c.loop-rest.differed
    c.in-Some.piece c.take_front.new.self c.split_at.result.0.now c.split_at.result.1.now c.loop-rest.differed
    c.loop-rest.invariant c.in-Some.ensures (rw c.len_of.ensures at c.split_at.ensures.front) (rw c.len_of.ensures at c.split_at.ensures.back)
    (rw c.len_of.ensures at c.split_at.ensures.back_len)
    (c.if-differed.true
    ∙ sym (ap (λ (b : Bool). b || differs (gathered (byte_in c.args.memory.now) (places_of_piece c.in-Some.piece)) c.split_at.result.0.now) c.if-differed.true))

pub loop-rest-preserved : goal.loop-rest-preserved
loop-rest-preserved c =
    IsComparing-more (length c.args.memory.now) (byte_in c.args.memory.now) c.args.self.now c.args.bytes.now c.loop-rest.self c.loop-rest.rest.now c.loop-rest.differed
    c.in-Some.piece c.take_front.new.self c.split_at.result.0.now c.split_at.result.1.now c.piece_differs-differed.result
    c.loop-rest.invariant c.in-Some.ensures (rw c.len_of.ensures at c.split_at.ensures.front) (rw c.len_of.ensures at c.split_at.ensures.back)
    (rw c.len_of.ensures at c.split_at.ensures.back_len)
    (c.piece_differs-differed.ensures
    ∙ sym (ap (λ (b : Bool). b || differs (gathered (byte_in c.args.memory.now) (places_of_piece c.in-Some.piece)) c.split_at.result.0.now) c.if-differed.false))

pub returns-clause-value : goal.returns-clause-value
returns-clause-value c =
    IsComparing-end (length c.args.memory.now) (byte_in c.args.memory.now) c.args.self.now c.args.bytes.now c.loop-rest.self c.loop-rest.rest.now c.loop-rest.differed
    c.loop-rest.invariant (let test = c.is_empty.ensures in let is = c.loop-rest-test.false in grind (arith, nat_tests))
