use Rattle.std.proofs.Common.{◌≡◌, ◌∙◌, ℕ, ◌==◌, cond, Bool, None, Option, Some, true, false, sym, ap}
use Rattle.std.proofs.lemmas.Bool.{eq-eqb, ne_eqb}
use Rattle.nv_core.specs.Tags.{command_at}
use Rattle.nv_core.proofs.Claims.{not-free, some-there}
use Rattle.nv_core.proofs.LaneTags.{lane-command}
use Rattle.nv_model.specs.declared.reply.Reply.{Reply}
use Rattle.nv_model.specs.declared.reply.Reply.TheVariants as reply
use Rattle.nv_tags.specs.Tags.{Slot, command_in, leader_of, slot_at}
use Rattle.nv_tags.specs.Tags as slot
use Rattle.nv_world_model.specs.World.{Command}
use Rattle.nv_core.proofs.lane.Lane.unled.Goals as goal

its-leader : (s : Slot) (command : Command) → command_in s ≡ Some command → leader_of s ≡ command.leader
its-leader slot.Free command is = cc
its-leader (slot.Used c point) command is = let same : c ≡ command = cc in ap (λ (d : Command). d.leader) same

told : (o tag : ℕ) (b : Bool) (command : Command) → o ≡ command.leader → o == tag ≡ b
    → cond b None (Some reply.Stale) ≡ cond (command.leader == tag) None (Some reply.Stale)
told o tag b command leads is =
    ap (λ (x : Bool). cond {A = Option Reply} x None (Some reply.Stale)) (sym is ∙ ap (λ (n : ℕ). n == tag) leads)

pub leader-requires : goal.leader-requires
leader-requires c =
    let i = c.self.inside in
    let there = some-there (command_at _) c.requires in
    let is = lane-command i.head i.phase i.tags i.progress.items c.args.self.now c.self.invariant c.self.view_is c.args.tag there.0 there.1 in
    record { used = not-free (slot_at i.tags c.args.tag) there.0 is }

pub returns-then-leader-tag : goal.returns-then-leader-tag
returns-then-leader-tag c = λ command there.
    let i = c.self.inside in
    let is = lane-command i.head i.phase i.tags i.progress.items c.args.self.now c.self.invariant c.self.view_is c.args.tag command there in
    told c.leader.result c.args.tag true command (c.leader.ensures.value ∙ its-leader (slot_at i.tags c.args.tag) command is)
    (eq-eqb c.leader.result c.args.tag c.if-leader-tag.true)

pub returns : goal.returns
returns c = λ command there.
    let i = c.self.inside in
    let is = lane-command i.head i.phase i.tags i.progress.items c.args.self.now c.self.invariant c.self.view_is c.args.tag command there in
    told c.leader.result c.args.tag false command (c.leader.ensures.value ∙ its-leader (slot_at i.tags c.args.tag) command is)
    (ne_eqb c.leader.result c.args.tag c.if-leader-tag.false)
