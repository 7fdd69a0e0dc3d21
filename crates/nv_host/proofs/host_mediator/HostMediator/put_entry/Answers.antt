use Rattle.std.proofs.Common.{◌≡◌, ℕ, ◌∙◌, ap, arith, length, rules}
use Rattle.nv_host.proofs.Ring.{next-stored, put-stored, store-alone}
use Rattle.nv_model.specs.Memory.{byte_in, stored}
use Rattle.nv_world_model.specs.Area.{completion_slot}
use Rattle.nv_host.proofs.host_mediator.HostMediator.put_entry.Goals as goal

pub returns-clause-next : goal.returns-clause-next
returns-clause-next g c = λ l found.
    let inside = c.next_slot.ensures.inside in
    let lent = c.requires.lent in
    let many : length c.bytes.result ≡ 16 = search rules in
    next-stored c.args.self.now.setup.geometry c.args.lane (g.C.MemoryCell.bytes c.args.memory.now) c.bytes.result (g.C.MemoryCell.bytes c.store.new.memory)
    c.next_slot.result many (omega (arith, inside, lent)) c.store.ensures.bytes l (c.next_slot.ensures.value l found) ∙ c.bytes.ensures

pub returns-clause-stored : goal.returns-clause-stored
returns-clause-stored g c = λ l found.
    let inside = c.next_slot.ensures.inside in
    let lent = c.requires.lent in
    let many : length c.bytes.result ≡ 16 = search rules in
    let slot : ℕ = completion_slot c.args.self.now.setup.geometry.mediator c.args.lane l.head in
    put-stored c.args.self.now.setup.geometry c.args.lane (g.C.MemoryCell.bytes c.args.memory.now) c.bytes.result (g.C.MemoryCell.bytes c.store.new.memory)
    c.next_slot.result many (omega (arith, inside, lent)) c.store.ensures.bytes l (c.next_slot.ensures.value l found)
    ∙ ap (stored (byte_in (g.C.MemoryCell.bytes c.args.memory.now)) slot) c.bytes.ensures

pub returns-clause-ring : goal.returns-clause-ring
returns-clause-ring g c =
    let inside = c.next_slot.ensures.inside in
    let lent = c.requires.lent in
    let many : length c.bytes.result ≡ 16 = search rules in
    store-alone c.args.self.now.setup.geometry c.args.lane (g.C.MemoryCell.bytes c.args.memory.now) c.bytes.result (g.C.MemoryCell.bytes c.store.new.memory)
    c.next_slot.result many (omega (arith, inside, lent)) c.store.ensures.bytes c.next_slot.ensures.low c.next_slot.ensures.high
