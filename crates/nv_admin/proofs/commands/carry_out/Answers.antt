use Rattle.std.proofs.Common.{None, Some, sym, ◌∙◌}
use Rattle.nv_mem.specs.GuestMap.{mapped}
use Rattle.nv_admin.proofs.Effects.{command-alone, command-fused, command-pages, command-pointer, stored-alone, stored-fused, stored-pages, stored-pointer}
use Rattle.nv_admin.proofs.commands.carry_out.Goals as goal

pub returns-then-fuse-ne0-clause-effect : goal.returns-then-fuse-ne0-clause-effect
returns-then-fuse-ne0-clause-effect c = λ memory.
    rw c.quiet.ensures
    (command-fused (mapped c.args.map.now.regions) c.args.blocks c.args.sqe.now c.args.vctl.now memory (λ none. c.if-fuse-ne0.true (c.fuse.ensures ∙ none)))

pub returns-then-fuse-ne0-clause-stored : goal.returns-then-fuse-ne0-clause-stored
returns-then-fuse-ne0-clause-stored c =
    rw c.quiet.ensures
    (stored-fused (mapped c.args.map.now.regions) c.args.blocks c.args.sqe.now (λ none. c.if-fuse-ne0.true (c.fuse.ensures ∙ none)))

pub returns-in_default-clause-effect : goal.returns-in_default-clause-effect
returns-in_default-clause-effect c = λ memory.
    rw c.quiet-in_default.ensures
    (command-alone (mapped c.args.map.now.regions) c.args.blocks c.args.sqe.now c.args.vctl.now memory None
    (sym c.fuse.ensures ∙ c.if-fuse-ne0.false) c.in_default.ensures)

pub returns-in_default-clause-stored : goal.returns-in_default-clause-stored
returns-in_default-clause-stored c =
    rw c.quiet-in_default.ensures
    (stored-alone (mapped c.args.map.now.regions) c.args.blocks c.args.sqe.now None (sym c.fuse.ensures ∙ c.if-fuse-ne0.false) c.in_default.ensures)

pub returns-in_default-data_pointer-clause-effect : goal.returns-in_default-data_pointer-clause-effect
returns-in_default-data_pointer-clause-effect c = λ memory.
    rw c.quiet-in_default-data_pointer.ensures
    (command-alone (mapped c.args.map.now.regions) c.args.blocks c.args.sqe.now c.args.vctl.now memory (Some c.in-Some.opcode)
    (sym c.fuse.ensures ∙ c.if-fuse-ne0.false) c.in-Some.ensures
    ∙ command-pointer (mapped c.args.map.now.regions) c.args.blocks c.args.sqe.now c.args.vctl.now memory c.in-Some.opcode
    (λ is. c.in_default-data_pointer.not-Prp (c.data_pointer.ensures ∙ sym is)))

pub returns-in_default-data_pointer-clause-stored : goal.returns-in_default-data_pointer-clause-stored
returns-in_default-data_pointer-clause-stored c =
    rw c.quiet-in_default-data_pointer.ensures
    (stored-alone (mapped c.args.map.now.regions) c.args.blocks c.args.sqe.now (Some c.in-Some.opcode) (sym c.fuse.ensures ∙ c.if-fuse-ne0.false)
    c.in-Some.ensures
    ∙ stored-pointer (mapped c.args.map.now.regions) c.args.blocks c.args.sqe.now c.in-Some.opcode
    (λ is. c.in_default-data_pointer.not-Prp (c.data_pointer.ensures ∙ sym is)))

pub returns-clause-effect : goal.returns-clause-effect
returns-clause-effect c = λ memory.
    command-alone (mapped c.args.map.now.regions) c.args.blocks c.args.sqe.now c.args.vctl.now memory (Some c.in-Some.opcode)
    (sym c.fuse.ensures ∙ c.if-fuse-ne0.false) c.in-Some.ensures
    ∙ command-pages (mapped c.args.map.now.regions) c.args.blocks c.args.sqe.now c.args.vctl.now memory c.in-Some.opcode c.in-Prp.ensures
    ∙ c.carry_out_by.ensures.effect memory

pub returns-clause-stored : goal.returns-clause-stored
returns-clause-stored c =
    stored-alone (mapped c.args.map.now.regions) c.args.blocks c.args.sqe.now (Some c.in-Some.opcode) (sym c.fuse.ensures ∙ c.if-fuse-ne0.false)
    c.in-Some.ensures
    ∙ stored-pages (mapped c.args.map.now.regions) c.args.blocks c.args.sqe.now c.in-Some.opcode c.in-Prp.ensures
    ∙ c.carry_out_by.ensures.stored
