use Rattle.nv_host.proofs.Made.{made}
use Rattle.std.proofs.Common.{◌≡◌, ℕ, Bool, List, Some, slice_get, ap, sym, subst, ◌∙◌}
use Rattle.std.specs.Option.{unwrap_or}
use Rattle.nv_laws_sound.specs.Side.{Side}
use Rattle.nv_entry.specs.Completion.{cid_of, completion}
use Rattle.nv_host.proofs.Failed.{fails-each, told-flies}
use Rattle.nv_host.proofs.Fails.{failed-run, kept-run, laid-there, lane-there, tail-there}
use Rattle.nv_host.proofs.Failures.{fault}
use Rattle.nv_host.specs.Ending.{IsIdleRun}
use Rattle.nv_host.specs.Served.{Served}
use Rattle.nv_model.specs.Memory.{byte_in, stored}
use Rattle.nv_world_model.specs.Area.{completion_slot, queue_pair}
use Rattle.nv_world_model.specs.World.{Lane}
use Rattle.nv_host.proofs.host_mediator.HostMediator.fail.Goals as goal

pub returns-then-not-has_reaped-clause-run : goal.returns-then-not-has_reaped-clause-run
returns-then-not-has_reaped-clause-run g c =
    let h = made c.self.inside.host_bytes c.self.inside.lanes c.self.inside.layout c.self.inside.front c.self.inside.closed.items c.self.inside.spare.items in
    let before : List ℕ = g.C.MemoryCell.bytes c.args.memory.now in
    let mid : List ℕ = g.C.MemoryCell.bytes c.put_entry.new.memory in
    let there = lane-there h c.args.self.now c.self.view_is c.self.invariant.served c.args.lane c.requires.there in
    let tail : ℕ = unwrap_or (slice_get c.args.self.now.side.tails c.args.lane) 0 in
    let tail_is = tail-there h c.args.self.now c.self.view_is c.self.invariant.served c.args.lane c.requires.there in
    let entry_is =
    c.failing_entry-entry.ensures.bytes
    ∙ ap (λ (b : Bool). completion 0 tail (queue_pair c.args.lane) c.args.tag b fault) (c.wanted_phase-phase.ensures there.0 there.1) in
    let after : List ℕ = g.C.MemoryCell.bytes c.put_entry-then-not-has_reaped.new.memory in
    let same : c.has_reaped.new.self ≡ c.args.self.now = c.has_reaped.ensures.same c.if-not-has_reaped.true in
    let again =
    subst (λ (x : Served). (l : Lane) → slice_get x.side.lanes c.args.lane ≡ Some l
    → byte_in after ≡ stored (byte_in mid) (completion_slot x.setup.geometry.mediator c.args.lane l.head) c.next_entry-there.result) same
    c.put_entry-then-not-has_reaped.ensures.stored in
    subst (λ (x : Side). IsIdleRun c.args.self.now.setup.geometry c.args.lane c.args.self.now.side before x after) (sym (ap (λ (x : Served). x.side) same))
    (kept-run c.args.self.now.setup.geometry c.args.lane c.args.tag c.args.self.now.side c.has_reaped.new.self.side before mid c.next_entry-there.result
    c.failing_entry-entry.result there.0 there.1 tail tail_is entry_is (c.put_entry.ensures.stored there.0 there.1)
    after (c.next_entry-there.ensures there.0 there.1) (again there.0 there.1))

pub returns-else-not-has_reaped-clause-each : goal.returns-else-not-has_reaped-clause-each
returns-else-not-has_reaped-clause-each g c =
    fails-each c.args.self.now.setup.geometry c.args.lane c.args.tag c.args.self.now.side c.has_reaped.new.self.side (g.C.MemoryCell.bytes c.put_entry.new.memory)
    c.failing_entry-entry.result c.wanted_phase-phase.result c.has_reaped.result c.failing_entry-entry.ensures.fields c.wanted_phase-phase.ensures
    c.put_entry.ensures.next c.has_reaped.ensures.answer c.has_reaped.ensures.done (λ no. ap (λ (s : Served). s.side) (c.has_reaped.ensures.same no))

pub returns-else-not-has_reaped-clause-run : goal.returns-else-not-has_reaped-clause-run
returns-else-not-has_reaped-clause-run g c =
    let h = made c.self.inside.host_bytes c.self.inside.lanes c.self.inside.layout c.self.inside.front c.self.inside.closed.items c.self.inside.spare.items in
    let before : List ℕ = g.C.MemoryCell.bytes c.args.memory.now in
    let mid : List ℕ = g.C.MemoryCell.bytes c.put_entry.new.memory in
    let there = lane-there h c.args.self.now c.self.view_is c.self.invariant.served c.args.lane c.requires.there in
    let tail : ℕ = unwrap_or (slice_get c.args.self.now.side.tails c.args.lane) 0 in
    let tail_is = tail-there h c.args.self.now c.self.view_is c.self.invariant.served c.args.lane c.requires.there in
    let entry_is =
    c.failing_entry-entry.ensures.bytes
    ∙ ap (λ (b : Bool). completion 0 tail (queue_pair c.args.lane) c.args.tag b fault) (c.wanted_phase-phase.ensures there.0 there.1) in
    let told = c.if-not-has_reaped.false in
    let flies =
    told-flies c.args.self.now.setup.geometry c.args.lane c.args.tag c.args.self.now.side c.has_reaped.new.self.side mid
    c.failing_entry-entry.result c.wanted_phase-phase.result c.has_reaped.result c.failing_entry-entry.ensures.fields c.wanted_phase-phase.ensures
    c.put_entry.ensures.next c.has_reaped.ensures.answer c.has_reaped.ensures.done (λ no. ap (λ (s : Served). s.side) (c.has_reaped.ensures.same no))
    there.0 there.1 told in
    let named = ap cid_of (c.put_entry.ensures.next there.0 there.1) ∙ c.failing_entry-entry.ensures.fields.identifier in
    failed-run c.args.self.now.setup.geometry c.args.lane c.args.tag c.args.self.now.side c.has_reaped.new.self.side before mid c.next_entry-there.result
    c.failing_entry-entry.result there.0 there.1 tail tail_is entry_is (c.put_entry.ensures.stored there.0 there.1)
    c.args.self.now.setup.host_bytes (laid-there h c.args.self.now c.self.view_is c.self.invariant.served) flies (c.has_reaped.ensures.done told)
    (c.has_reaped.ensures.run told) named
