use Rattle.std.proofs.Common.{◌≡◌, ◌+◌, ◌-◌, ◌≤◌, ◌^◌, ℕ, List, length, arith, ap, sym, subst, refl, ◌∙◌}
use Rattle.std.proofs.lemmas.Slice.{take-put_mid}
use borrow.Rule.Slice.PartMut.{mid_len, put_mid, same_len_mid}
use Rattle.nv_mem.specs.Places.{Place, piece_len, places_of_piece}
use Rattle.nv_mem.proofs.PlaceLists.{length-places_of_piece}
use Rattle.nv_model.proofs.MemoryLemmas.{length-gathered}
use Rattle.nv_disk.specs.Buffer.{AreBelow}
use Rattle.nv_model.specs.Memory.{byte_in}
use Rattle.nv_disk.proofs.BufferLemmas.{AreBelow-drop, AreBelow-more, IsFetching, IsFetching-more, IsFront-below, gathered-none}
use Rattle.nv_disk.proofs.buffer.Buffer.fetch.Goals as goal

pub loop-done-init : goal.loop-done-init
loop-done-init c =
    record { taken = gathered-none (byte_in c.args.memory.now); len = refl; left = refl; within = omega arith; enough = c.requires.enough }

pub take_front-requires-clause-in_range : goal.take_front-requires-clause-in_range
take_front-requires-clause-in_range c =
    let W : List Place → Type 0 = λ ps. AreBelow (length c.args.memory.now) ps in
    AreBelow-more (length c.args.memory.now) (2 ^ 64) c.loop-done.self (omega arith)
    (subst W (sym c.loop-done.invariant.left) (AreBelow-drop (length c.args.memory.now) c.loop-done.done c.args.self.now c.requires.in_memory))

pub load-requires-clause-in_memory : goal.load-requires-clause-in_memory
load-requires-clause-in_memory c =
    let W : List Place → Type 0 = λ ps. AreBelow (length c.args.memory.now) ps in
    IsFront-below (length c.args.memory.now) c.loop-done.self c.take_front.new.self _ c.in-Some.piece c.in-Some.ensures
    (subst W (sym c.loop-done.invariant.left) (AreBelow-drop (length c.args.memory.now) c.loop-done.done c.args.self.now c.requires.in_memory))

pub loop-done-preserved : goal.loop-done-preserved
loop-done-preserved c =
    let so_far = c.loop-done.invariant in
    let n : c.len_of.result ≡ piece_len c.in-Some.piece = c.len_of.ensures in
    let at_most : piece_len c.in-Some.piece ≤ length c.loop-done.out - c.loop-done.done = c.in-Some.ensures.at_most in
    let len : length c.load.new.out ≡ piece_len c.in-Some.piece =
    ap length c.load.ensures ∙ length-gathered (byte_in c.args.memory.now) (places_of_piece c.in-Some.piece)
    ∙ length-places_of_piece c.in-Some.piece in
    let below : c.loop-done.done ≤ length c.loop-done.out = (let w = so_far.within in let l = so_far.len in omega arith) in
    let done_so : IsFetching (byte_in c.args.memory.now) c.args.self.now (length c.args.out.now) _ c.take_front.new.self (c.loop-done.done + piece_len c.in-Some.piece) =
    IsFetching-more (byte_in c.args.memory.now) c.args.self.now (length c.args.out.now) c.loop-done.out c.loop-done.self c.loop-done.done
    c.in-Some.piece c.take_front.new.self (length c.loop-done.out - c.loop-done.done) c.load.new.out
    (put_mid c.loop-done.done (c.loop-done.done + c.len_of.result - c.loop-done.done) c.loop-done.out c.load.new.out)
    so_far c.in-Some.ensures (let l = so_far.len in omega arith) c.load.ensures
    (take-put_mid c.loop-done.done (c.loop-done.done + c.len_of.result - c.loop-done.done) c.loop-done.out c.load.new.out (c.loop-done.done + piece_len c.in-Some.piece) (omega arith) below)
    (same_len_mid c.loop-done.done (c.loop-done.done + c.len_of.result - c.loop-done.done) c.loop-done.out c.load.new.out
    (let mid = mid_len c.loop-done.done (c.loop-done.done + c.len_of.result) c.loop-done.out (omega arith) in omega arith)) in
    let P : ℕ → Type 0 = λ k. IsFetching (byte_in c.args.memory.now) c.args.self.now (length c.args.out.now)
    (put_mid c.loop-done.done (c.loop-done.done + c.len_of.result - c.loop-done.done) c.loop-done.out c.load.new.out) c.take_front.new.self (c.loop-done.done + k) in
    subst P (sym n) done_so
