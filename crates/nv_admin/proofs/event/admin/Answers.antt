use Rattle.std.proofs.Common.{ℕ, ap, sym, ◌∙◌}
use Rattle.nv_mem.specs.GuestMap.{mapped}
use Rattle.nv_model.specs.Memory.{byte_in, image}
use Rattle.nv_admin.specs.Effect.{stored_by}
use Rattle.nv_admin.specs.Event.{host_behind, reply_of}
use Rattle.nv_admin.specs.Identify.{memory_behind}
use Rattle.nv_admin.specs.declared.administered.Administered.TheVariants as done
use Rattle.nv_admin.proofs.Administering.{event-controller, event-step}
use Rattle.nv_admin.proofs.Steps.{put-completion}
use Rattle.nv_admin.proofs.event.admin.Goals as goal

pub store_completion-requires-clause-in_map : goal.store_completion-requires-clause-in_map
store_completion-requires-clause-in_map g c = c.in-Done.ensures.in_map.1

pub returns-in-Idle-clause-reply : goal.returns-in-Idle-clause-reply
returns-in-Idle-clause-reply g c =
    ap reply_of
    (sym (event-step (mapped c.args.map.now.regions) c.args.blocks (image c.args.map.now.regions (byte_in (g.C.MemoryCell.bytes c.args.host.now)))
    c.fetched-entry.result c.args.vctl.now done.Idle c.administer.new.vctl c.fetched-entry.ensures c.in-Idle.ensures.event))

pub returns-in-Idle-clause-controller : goal.returns-in-Idle-clause-controller
returns-in-Idle-clause-controller g c =
    event-controller (mapped c.args.map.now.regions) c.args.blocks (image c.args.map.now.regions (byte_in (g.C.MemoryCell.bytes c.args.host.now)))
    c.fetched-entry.result c.args.vctl.now done.Idle c.administer.new.vctl c.fetched-entry.ensures c.in-Idle.ensures.event

pub returns-in-Idle-clause-host : goal.returns-in-Idle-clause-host
returns-in-Idle-clause-host g c =
    ap (host_behind c.args.map.now.regions (byte_in (g.C.MemoryCell.bytes c.args.host.now)))
    (sym (event-step (mapped c.args.map.now.regions) c.args.blocks (image c.args.map.now.regions (byte_in (g.C.MemoryCell.bytes c.args.host.now)))
    c.fetched-entry.result c.args.vctl.now done.Idle c.administer.new.vctl c.fetched-entry.ensures c.in-Idle.ensures.event))

pub returns-in-Held-clause-reply : goal.returns-in-Held-clause-reply
returns-in-Held-clause-reply g c =
    ap reply_of
    (sym (event-step (mapped c.args.map.now.regions) c.args.blocks (image c.args.map.now.regions (byte_in (g.C.MemoryCell.bytes c.args.host.now)))
    c.fetched-entry.result c.args.vctl.now done.Held c.administer.new.vctl c.fetched-entry.ensures c.in-Held.ensures.event))

pub returns-in-Held-clause-controller : goal.returns-in-Held-clause-controller
returns-in-Held-clause-controller g c =
    event-controller (mapped c.args.map.now.regions) c.args.blocks (image c.args.map.now.regions (byte_in (g.C.MemoryCell.bytes c.args.host.now)))
    c.fetched-entry.result c.args.vctl.now done.Held c.administer.new.vctl c.fetched-entry.ensures c.in-Held.ensures.event

pub returns-in-Held-clause-host : goal.returns-in-Held-clause-host
returns-in-Held-clause-host g c =
    ap (host_behind c.args.map.now.regions (byte_in (g.C.MemoryCell.bytes c.args.host.now)))
    (sym (event-step (mapped c.args.map.now.regions) c.args.blocks (image c.args.map.now.regions (byte_in (g.C.MemoryCell.bytes c.args.host.now)))
    c.fetched-entry.result c.args.vctl.now done.Held c.administer.new.vctl c.fetched-entry.ensures c.in-Held.ensures.event))

pub returns-in-Done-clause-reply : goal.returns-in-Done-clause-reply
returns-in-Done-clause-reply g c =
    ap reply_of
    (sym (event-step (mapped c.args.map.now.regions) c.args.blocks (image c.args.map.now.regions (byte_in (g.C.MemoryCell.bytes c.args.host.now)))
    c.fetched-entry.result c.args.vctl.now (done.Done c.in-Done.page c.in-Done.completion) c.administer.new.vctl c.fetched-entry.ensures c.in-Done.ensures.event))

pub returns-in-Done-clause-controller : goal.returns-in-Done-clause-controller
returns-in-Done-clause-controller g c =
    event-controller (mapped c.args.map.now.regions) c.args.blocks (image c.args.map.now.regions (byte_in (g.C.MemoryCell.bytes c.args.host.now)))
    c.fetched-entry.result c.args.vctl.now (done.Done c.in-Done.page c.in-Done.completion) c.administer.new.vctl c.fetched-entry.ensures c.in-Done.ensures.event

pub returns-in-Done-clause-host : goal.returns-in-Done-clause-host
returns-in-Done-clause-host g c =
    let before : ℕ → ℕ = byte_in (g.C.MemoryCell.bytes c.args.host.now) in
    c.store_completion.ensures.bytes
    ∙ put-completion c.args.map.now.regions (memory_behind (stored_by c.in-Done.page) (image c.args.map.now.regions before)) before
    (byte_in (g.C.MemoryCell.bytes c.store_page.new.host)) c.in-Done.completion c.host_len-known.ensures.sound.apart c.store_page.ensures.bytes
    ∙ ap (host_behind c.args.map.now.regions (byte_in (g.C.MemoryCell.bytes c.args.host.now)))
    (sym (event-step (mapped c.args.map.now.regions) c.args.blocks (image c.args.map.now.regions (byte_in (g.C.MemoryCell.bytes c.args.host.now)))
    c.fetched-entry.result c.args.vctl.now (done.Done c.in-Done.page c.in-Done.completion) c.administer.new.vctl c.fetched-entry.ensures c.in-Done.ensures.event))
